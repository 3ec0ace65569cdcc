use Rattle.std.proofs.Common.{rules}
use Rattle.bnw.proofs.BondFaults.{fault_first, fault_second, fault_order, fault_after, fault_ninth_first, fault_ninth_second, fault_none}
use Rattle.bnw_reader.proofs.FileBonds.{same_first, same_second, counted_below}
use Rattle.bnw_reader.proofs.file_bonds.bond_fault.Goals as goal
use Rattle.bnw_reader.proofs.file_bonds.bond_fault.Goals.{then-n-first-via-then-n-first, then-n-first-via-else-n-first+then-n-second, then-n-first-via-else-n-first+else-n-second+then-second-first, then-n-first-via-else-n-first+else-n-second+else-second-first+then-not-is_in_order, then-partner_count-ge-PLACES-via-then-partner_count-ge-PLACES, then-partner_count-ge-PLACES-via-else-partner_count-ge-PLACES+then-partner_count-ge-PLACES-2}

pub returns-then-n-first : goal.returns-then-n-first
returns-then-n-first c =
    elim c.then-n-first.branch [
      | then-n-first-via-then-n-first w ↦ search (fault_first, same_first, same_second)
      | then-n-first-via-else-n-first+then-n-second w ↦ search (fault_second, same_first, same_second)
      | then-n-first-via-else-n-first+else-n-second+then-second-first w ↦ search (fault_order, same_first, same_second)
      | then-n-first-via-else-n-first+else-n-second+else-second-first+then-not-is_in_order w ↦ search (fault_after, same_first, same_second)
    ]

pub returns-then-partner_count-ge-PLACES : goal.returns-then-partner_count-ge-PLACES
returns-then-partner_count-ge-PLACES c =
    elim c.then-partner_count-ge-PLACES.branch [
      | then-partner_count-ge-PLACES-via-then-partner_count-ge-PLACES w ↦ search (fault_ninth_first, same_first, same_second, counted_below, rules)
      | then-partner_count-ge-PLACES-via-else-partner_count-ge-PLACES+then-partner_count-ge-PLACES-2 w ↦ search (fault_ninth_second, same_first, same_second, counted_below, rules)
    ]

pub returns : goal.returns
returns c = search (fault_none, same_first, same_second, counted_below, rules)
