-- What a field of a record holds, in the documents' own terms. Nothing here speaks of how it is found.
use Rattle.std.specs.Prelude.{ℕ, ◌+◌, ◌-◌, ◌≤◌, List, length, take, drop}
use Rattle.record.specs.declared.Field.{Field}
use Rattle.record.specs.declared.Line.{Line}
use Rattle.page.specs.CodePage.{shown}
use Rattle.record.specs.Correction.{corrected}

-- the bytes of a record, or of several, as the rules see them (01 Bytes, 02 W2)
abbrev pub seen : Line → List ℕ → List ℕ
seen line bytes = shown line.ascii bytes

-- the record is long enough for the field; positions count from 1 (01 Bytes)
abbrev pub Has : List ℕ → Field → Type 0
Has rec f = (1 ≤ f.start) × (f.start + f.width ≤ length rec + 1)

-- the field's bytes, over its full width (01 Bytes)
unfoldable pub written : List ℕ → Field → List ℕ
written rec f = take f.width (drop (f.start - 1) rec)

-- what the field holds: its bytes, as their justification is corrected (02 W3)
unfoldable pub held : List ℕ → Field → List ℕ
held rec f = corrected f.justification (written rec f)
