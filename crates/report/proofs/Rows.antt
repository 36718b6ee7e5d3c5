-- The bytes of rows: how many they are, where they stand, and bytes written over others.
-- Assumes nothing.
use mathlib.Core.Path.{◌≡◌, refl, sym, ap, ◌∙◌}
use mathlib.Core.List.{List, [], ◌∷◌, ◌++◌, append_assoc, append-nil}
use Prim.Native.Nat.{ℕ, ◌+◌, ◌*◌, ◌<◌, ◌≤◌}
use native.Mathlib.Omega.{arith}
use lib.ListN.{length, take, drop, length-append, length-drop, take-append-drop}
use lib.Seq.{length-take-le, take_at, drop-append-add, drop-drop}
use Rattle.numbers.specs.Numbers.{little}
use Rattle.numbers.proofs.Laws.{little_length}
use Rattle.report.specs.Rows.{row_bytes, rows_bytes, row_at, room_for, over}

-- every row has eight numbers
abbrev pub Eights : List (List ℕ) → Type 0
Eights [] = Unit {0}
Eights (row ∷ rows) = (length row ≡ 8) × Eights rows

numbers_length : (ns : List ℕ) → length (row_bytes ns) ≡ length ns * 8
unfolding row_bytes
numbers_length [] = refl
numbers_length (n ∷ ns) = length-append (little 8 n) (row_bytes ns) ∙ omega (arith, little_length 8 n, numbers_length ns)

pub row_length : (row : List ℕ) → length row ≡ 8 → length (row_bytes row) ≡ 64
row_length row h = omega (arith, numbers_length row)

rows_length : (rows : List (List ℕ)) → Eights rows → length (rows_bytes rows) ≡ length rows * 64
unfolding rows_bytes
rows_length [] h = refl
rows_length (row ∷ rows) h = length-append (row_bytes row) (rows_bytes rows) ∙ omega (arith, row_length row h.0, rows_length rows h.1)

rows_append : (xs ys : List (List ℕ)) → rows_bytes (xs ++ ys) ≡ rows_bytes xs ++ rows_bytes ys
unfolding rows_bytes
rows_append [] ys = refl
rows_append (x ∷ xs) ys = ap (λ (bs : List ℕ). row_bytes x ++ bs) (rows_append xs ys) ∙ sym (append_assoc (row_bytes x) (rows_bytes xs) (rows_bytes ys))

rows_one : (row : List ℕ) → rows_bytes (row ∷ []) ≡ row_bytes row
unfolding rows_bytes
rows_one row = append-nil (row_bytes row)

-- one row more
pub rows_snoc : (rows : List (List ℕ)) (row : List ℕ) → rows_bytes (rows ++ row ∷ []) ≡ rows_bytes rows ++ row_bytes row
rows_snoc rows row = rows_append rows (row ∷ []) ∙ ap (λ (bs : List ℕ). rows_bytes rows ++ bs) (rows_one row)

-- the first row begins behind the head, and each behind the one before
pub head_length : (head : List ℕ) → length head ≡ 8 → length (row_bytes head) ≡ row_at 0
unfolding row_at
head_length head h = row_length head h

pub rows_end : (rows : List (List ℕ)) → Eights rows → row_at 0 + length (rows_bytes rows) ≡ row_at (length rows)
unfolding row_at
rows_end rows h = omega (arith, rows_length rows h)

pub room_end : (rows : List (List ℕ)) → Eights rows → row_at 0 + length (rows_bytes rows) ≡ room_for (length rows)
unfolding room_for
room_end rows h = rows_end rows h

-- where there is room for a number of batches there is room for the head, for some of their rows, and for the row of each
pub head_room : (batches room : ℕ) → room_for batches ≤ room → 64 ≤ room
unfolding room_for row_at
head_room batches room h = omega arith

pub rows_room : (place batches room : ℕ) → place ≤ batches → room_for batches ≤ room → row_at place ≤ room
unfolding room_for row_at
rows_room place batches room l h = omega arith

pub row_room : (at place batches room : ℕ) → at ≡ row_at place → place < batches → room_for batches ≤ room → at + 64 ≤ room
unfolding room_for row_at
row_room at place batches room e l h = omega arith

-- bytes written over others
pub over_none : (before : List ℕ) (at : ℕ) → over before at [] ≡ before
unfolding over
over_none before at =
    let z : at + 0 ≡ at = omega arith in
    rw z (take-append-drop at before)

pub over_length : (before : List ℕ) (at : ℕ) (bytes : List ℕ) → at + length bytes ≤ length before → length (over before at bytes) ≡ length before
unfolding over
over_length before at bytes h = simp (length-append, length-drop) (omega (arith, length-take-le at before (omega arith)))

seam : (front rest : List ℕ) (n m : ℕ) → length front ≡ n → drop (n + m) (front ++ rest) ≡ drop m rest
seam front rest n m e = rw (← e) (drop-append-add front rest m)

-- and then from where those end
pub over_more : (before : List ℕ) (at : ℕ) (xs ys : List ℕ) → at ≤ length before → over (over before at xs) (at + length xs) ys ≡ over before at (xs ++ ys)
unfolding over
over_more before at xs ys h =
    let front = take at before ++ xs in
    let rest = drop (at + length xs) before in
    let long : length front ≡ at + length xs = length-append (take at before) xs ∙ omega (arith, length-take-le at before h) in
    let n : at + length xs + length ys ≡ at + length (xs ++ ys) = rw length-append (omega arith) in
    let past : drop (at + length xs + length ys) (front ++ rest) ≡ drop (at + length (xs ++ ys)) before =
    seam front rest (at + length xs) (length ys) long ∙ drop-drop (length ys) (at + length xs) before ∙ ap (λ (k : ℕ). drop k before) n in
    rw (← append_assoc (take at before) xs rest, take_at front rest (at + length xs) long, past) (simp append_assoc)
