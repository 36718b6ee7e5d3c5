-- How the code reads a book, as functions of the bytes: the private functions are promised by these, and proofs/ ties them to Book.antt.
use Rattle.std.specs.Prelude.{ℕ, ◌+◌, ◌-◌, ◌*◌, ◌/◌, ◌%◌, ◌≤◌, Bool, true, List, [], ◌∷◌, Option, Some, None, leb, eqb, length, take, drop}
use Rattle.numbers.specs.Numbers.{number_in}
use Rattle.record.specs.Choice.{◌and◌, choose}
use Rattle.book.specs.declared.Kind.{Kind}
use Rattle.book.specs.declared.Section.{Section}
use Rattle.book.specs.Book.{flagged, ascend, entries_at}

-- a place in a book of a size that is read
pub record Readable (bytes : List ℕ) (at : ℕ) : Type 0 where
  pub inside : at ≤ length bytes
  pub small : length bytes ≤ 16777216

-- a kind whose entries are a code and at most one byte more
pub record Kinded (k : Kind) : Type 0 where
  pub some : 1 ≤ k.entry
  pub whole : k.code ≤ k.entry
  pub flag : k.entry ≤ k.code + 1

-- a section that lies in the book, whose entries are a code and at most one byte more
pub record Framed (bytes : List ℕ) (s : Section) : Type 0 where
  pub within : s.start + s.count * s.entry ≤ length bytes
  pub whole : s.code ≤ s.entry
  pub flag : s.entry ≤ s.code + 1

-- every entry's flag is a flag
unfoldable pub flags : ℕ → List (List ℕ) → Bool
flags width [] = true
flags width (e ∷ es) = flagged width e and flags width es

-- the length and the kind that stand at a place
unfoldable pub size_at : List ℕ → ℕ → ℕ
size_at bytes at = number_in (take 4 (drop at bytes))

unfoldable pub kind_at : List ℕ → ℕ → ℕ
kind_at bytes at = number_in (take 2 (drop (at + 4) bytes))

-- a section's frame: length and kind stand there, and whole entries of that length follow
unfoldable pub framed : List ℕ → ℕ → Kind → Bool
framed bytes at k =
    leb (at + 6) (length bytes) and eqb (kind_at bytes at) k.number and leb 2 (size_at bytes at) and leb (at + 4 + size_at bytes at) (length bytes)
    and eqb ((size_at bytes at - 2) % k.entry) 0

-- the section in that frame
abbrev pub section_in : List ℕ → ℕ → Kind → Section
section_in bytes at k = record { start = at + 6; count = (size_at bytes at - 2) / k.entry; code = k.code; entry = k.entry }

-- flags and order
unfoldable pub sound_in : List ℕ → Section → Bool
sound_in bytes s = flags s.code (entries_at bytes s) and ascend s.code (entries_at bytes s)

-- the section of the kind that stands at a place
unfoldable pub section_at : List ℕ → ℕ → Kind → Option Section
section_at bytes at k = choose (framed bytes at k and sound_in bytes (section_in bytes at k)) (Some (section_in bytes at k)) None
