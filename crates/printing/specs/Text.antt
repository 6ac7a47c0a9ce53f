-- A text as bytes: the codes of its letters, which are ASCII. Assumes nothing.
use Rattle.std.specs.Prelude.{ℕ, List, [] as no_bytes, ◌∷◌ as ◌then◌}
use Prim.Native.Char.{code}
use Prim.Native.String.{String, [], ◌∷◌}

abbrev pub bytes_of : String → List ℕ
bytes_of [] = no_bytes
bytes_of (letter ∷ letters) = code letter then bytes_of letters
