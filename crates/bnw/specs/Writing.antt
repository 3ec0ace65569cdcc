-- What comes of writing a network: the answer, and the lent bytes before and after.
--
--   write_verdict n t room      1, 4, 7 to 11, then 28, where `room` bytes are lent
--   told_bytes outcome          what is told of writing so many bytes, or of a refusal
--   WriteOutcome n t before after w    refused, nothing is changed; accepted, the file stands first and the rest stays
--   FileOfNetwork file room     the file is what writing makes of a network whose table has at most `room` words
use Rattle.std.specs.Prelude.{◌≡◌, List, ◌++◌, ℕ, ◌*◌, ◌≤◌, ltb, length, drop, Result, Ok, Err}
use Rattle.network.specs.declared.Answer.{Answer}
use Rattle.network.specs.declared.refusals.Refusal.{Refusal}
use Rattle.network.specs.Maxima.{places}
use Rattle.network.specs.Network.{IsNetwork}
use Rattle.network.specs.Refusals.{answer_of}
use Rattle.network.specs.Verdict.{check, sizes, faults, accepted}
use Rattle.bonds.specs.Bonds.{bonds_of}
use Rattle.bnw.specs.declared.FileWritten.{FileWritten}
use Rattle.bnw.specs.File.{file_of}

unfoldable pub write_verdict : ℕ → List ℕ → ℕ → Answer
write_verdict n t room = sizes n t (λ a. a) (faults n t (check 28 (ltb room (length (file_of n (bonds_of t)))) accepted))

abbrev pub told_bytes : Result ℕ Refusal → FileWritten
told_bytes (Ok bytes) = record { answer = accepted; bytes = bytes }
told_bytes (Err refusal) = record { answer = answer_of refusal; bytes = 0 }

pub record WriteOutcome (n : ℕ) (t before after : List ℕ) (w : FileWritten) : Type 0 where
  pub verdict : w.answer ≡ write_verdict n t (length before)
  pub refused : (w.answer.code ≡ 0 → ⊥) → (w.bytes ≡ 0) × (after ≡ before)
  pub number : w.answer.code ≡ 0 → w.bytes ≡ length (file_of n (bonds_of t))
  pub written : w.answer.code ≡ 0 → after ≡ file_of n (bonds_of t) ++ drop w.bytes before

pub record FileOfNetwork (file : List ℕ) (room : ℕ) : Type 0 where
  pub atoms : ℕ
  pub table : List ℕ
  pub network : IsNetwork atoms table
  pub fits : places * atoms ≤ room
  pub is_file : file ≡ file_of atoms (bonds_of table)
