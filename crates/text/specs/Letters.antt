-- Quoted text as bytes.
--
--   letters s      the bytes of a text of ASCII letters
use Rattle.std.specs.Prelude.{List, ℕ, codes}
use Prim.Native.String.{String}

abbrev pub letters : String → List ℕ
letters = codes
