-- The layout: each record's fields tile its 850 positions, and the fillers are those that document 01 names.
-- Assumes nothing.
use mathlib.Core.Path.{◌≡◌, refl, sym}
use mathlib.Core.Bool.{true}
use mathlib.Core.List.{List, [], ◌∷◌, ◌++◌, map}
use Prim.Native.Nat.{ℕ, zero, suc, ◌+◌, ◌-◌, ◌≤◌}
use native.Mathlib.Omega.{arith}
use lib.Dec.{eqb}
use borrow.Author.Tests.{eqb-true}
use lib.ListN.{length, drop, take-append-drop, drop_of_length-le, replicate}
use lib.Seq.{drop-drop}
use Rattle.record.specs.Choice.{◌and◌, choose}
use Rattle.record.specs.Fields.{text, fixed}
use Rattle.record.specs.Value.{written}
use Rattle.record.specs.Layout.{Record, Row, layout, records, rows, tiles, numbers, fillers, position_in}
use Rattle.record.specs.Layout.Record.{FileHeader, BatchHeader, Detail, Party, Account, Procurement, BatchTrailer, FileTrailer}
use Rattle.record.proofs.Chain.{and_left, and_right}

pub tiled : (k : Record) → tiles 1 (layout k) ≡ true
unfolding tiles layout ◌and◌
tiled FileHeader = refl
tiled BatchHeader = refl
tiled Detail = refl
tiled Party = refl
tiled Account = refl
tiled Procurement = refl
tiled BatchTrailer = refl
tiled FileTrailer = refl

-- n, n + 1, .., k numbers in all
pub up_from : ℕ → ℕ → List ℕ
up_from n zero = []
up_from n (suc k) = n ∷ up_from (n + 1) k

-- the fields are numbered 1 to 106
pub numbered : numbers (rows records) ≡ up_from 1 106
unfolding numbers rows records layout up_from
numbered = refl

-- document 01, Bytes
pub fillers_are : fillers (rows records) ≡ 4 ∷ 11 ∷ 21 ∷ 63 ∷ 75 ∷ 89 ∷ 97 ∷ 101 ∷ 106 ∷ []
unfolding fillers rows records layout choose
fillers_are = refl

-- the bytes of the fields, side by side
pub glued : List ℕ → List Row → List ℕ
glued rec [] = []
glued rec (r ∷ rs) = written rec r.position ++ glued rec rs

glued_from : (rec : List ℕ) (rs : List Row) (at : ℕ) → length rec ≡ 850 → 1 ≤ at → tiles at rs ≡ true → glued rec rs ≡ drop (at - 1) rec
unfolding tiles glued written
glued_from rec [] at n h e =
    let k : at ≡ 851 = eqb-true at 851 e in
    let j : length rec ≤ at - 1 = omega arith in
    sym (drop_of_length-le rec j)
glued_from rec (r ∷ rs) at n h e =
    let k : r.position.start ≡ at = eqb-true r.position.start at (and_left _ _ e) in
    let m : at + r.position.width - 1 ≡ at - 1 + r.position.width = omega arith in
    let t = glued_from rec rs (at + r.position.width) n (omega arith) (and_right (eqb r.position.start at) _ e) in
    rw (k, t, m, ← drop-drop r.position.width (at - 1) rec) (take-append-drop r.position.width (drop (at - 1) rec))

-- a record of 850 bytes is its fields, side by side: no byte is in no field, and none in two
pub glued_is : (k : Record) (rec : List ℕ) → length rec ≡ 850 → glued rec (layout k) ≡ rec
glued_is k rec n = glued_from rec (layout k) 1 n (omega arith) (tiled k)

-- every record begins with its code, and a payment's records have its ID at the same positions
pub codes_first : map (position_in (rows records)) (1 ∷ 5 ∷ 22 ∷ 64 ∷ 76 ∷ 90 ∷ 98 ∷ 102 ∷ []) ≡ replicate 8 (fixed 1 2)
unfolding position_in rows records layout choose
codes_first = refl

pub ids_same : map (position_in (rows records)) (23 ∷ 65 ∷ 77 ∷ 91 ∷ []) ≡ replicate 4 (text 3 20)
unfolding position_in rows records layout choose
ids_same = refl
