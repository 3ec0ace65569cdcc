use Rattle.std.proofs.Common.{rules, refl, to_z-of_z}
use Rattle.bnw.proofs.HeadFaults.{head_19, head_20, head_21, head_23, head_24, head_25, head_none, value_22, value_23, value_else}
use Rattle.bnw_reader.proofs.HeadRead.{mark_read, head_22, holds}
use Rattle.bnw_reader.proofs.head.contents_of.Goals as goal

pub returns-then-file-lt-HEAD-clause-refused : goal.returns-then-file-lt-HEAD-clause-refused
returns-then-file-lt-HEAD-clause-refused c = search (head_19, value_else, rules)

pub returns-then-not-starts_with-clause-refused : goal.returns-then-not-starts_with-clause-refused
returns-then-not-starts_with-clause-refused c = search (head_20, mark_read, value_else, rules)

pub returns-then-field-ne-VERSION-clause-refused : goal.returns-then-field-ne-VERSION-clause-refused
returns-then-field-ne-VERSION-clause-refused c = search (head_21, mark_read, value_else, rules)

pub returns-then-not-contains-clause-refused : goal.returns-then-not-contains-clause-refused
returns-then-not-contains-clause-refused c = search (head_22, mark_read, value_22, to_z-of_z, rules)

pub returns-then-bonds-gt-BONDS-clause-refused : goal.returns-then-bonds-gt-BONDS-clause-refused
returns-then-bonds-gt-BONDS-clause-refused c = search (head_23, mark_read, value_23, to_z-of_z, rules)

pub returns-then-file-bonds-clause-refused : goal.returns-then-file-bonds-clause-refused
returns-then-file-bonds-clause-refused c = search (head_24, mark_read, value_else, rules)

pub returns-then-room-atoms-clause-refused : goal.returns-then-room-atoms-clause-refused
returns-then-room-atoms-clause-refused c = search (head_25, mark_read, value_else, rules)

pub returns-clause-right : goal.returns-clause-right
returns-clause-right c =
    holds _ _ _ c.if-file-bonds.false refl _ _ _ (search (head_none, mark_read, rules)) c.field-atoms.ensures c.field-bonds.ensures c.as_chunks.ensures.front c.as_chunks.ensures.front_len
