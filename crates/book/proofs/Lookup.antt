-- A section's entries, and what a binary search among them knows.
-- Assumes nothing.
use mathlib.Core.Path.{◌≡◌, refl, sym, ap, ◌∙◌}
use mathlib.Core.Bool.{Bool, true, false, not, true≢false}
use mathlib.Core.List.{List, [], ◌∷◌}
use Prim.Native.Nat.{ℕ, zero, suc, ◌+◌, ◌-◌, ◌*◌, ◌≤◌, ◌<◌}
use native.Mathlib.Nat.{suc-mul, zero-mul, add_comm, add-sub_cancel_left}
use native.Mathlib.Omega.{arith}
use lib.ListN.{length, take, drop, get_or, length-take, length-drop, get_or-eq_default}
use lib.Seq.{drop-drop}
use Rattle.record.specs.declared.Field.{Field}
use Rattle.std.specs.declared.cmp.Ordering.{Ordering}
use Rattle.std.specs.declared.cmp.Ordering.TheVariants.{Less, Equal, Greater}
use denote.Bor.{Bor}
use Rattle.std.specs.Prelude.{Option, Some, None, option_copied, is_some, is_none}
use Rattle.record.specs.Fields.{text}
use Rattle.record.specs.Value.{Has, held, seen}
use Rattle.record.specs.Choice.{choose}
use Rattle.record.specs.Tests.{blank, alike}
use Rattle.record.specs.Ordering.{order}
use Rattle.record.proofs.Chain.{and_left, and_right, choose_yes, choose_no}
use Rattle.record.proofs.Same.{alike_equal, alike_self}
use Rattle.record.proofs.Orders.{before_not, told_before, order_transitive}
use Rattle.record.proofs.Bracket.{Bracket, middle, raised, lowered, same_is, end_none}
use Rattle.book.specs.declared.Kind.{Kind}
use Rattle.book.specs.declared.Section.{Section}
use Rattle.book.proofs.Bytes.{before}
use Rattle.book.proofs.Entries.{cut_count}
use Rattle.book.specs.Book.{lent, entry_code, follow, ascend, cut, entries_at, Shelved, entry_for, flag_of, listing, ShelvedAs}

-- an entry among those that are cut
cut_at : (w n : ℕ) (xs : List ℕ) (j : ℕ) → j < n → get_or (cut w n xs) j [] ≡ take w (drop (j * w) xs)
unfolding cut
cut_at w zero xs j h = absurd (omega arith)
cut_at w (suc n) xs zero h = rw zero-mul
cut_at w (suc n) xs (suc j) h = cut_at w n (drop w xs) j (omega arith) ∙ rw (drop-drop, suc-mul, add_comm w (j * w))

apart : (xs ys : List ℕ) → (xs ≡ ys → ⊥) → alike xs ys ≡ false
apart xs ys d = go (alike xs ys) refl
  where
    go : (t : Bool) → alike xs ys ≡ t → t ≡ false
    go true e = absurd (d (alike_equal xs ys e))
    go false e = refl

module _ (width : ℕ) where
  -- the code of entry j
  abbrev pub key : List (List ℕ) → ℕ → List ℕ
  key es j = entry_code width (get_or es j [])

  follows : (e : List ℕ) (es : List (List ℕ)) → follow width e es ≡ true → (j : ℕ) → j < length es → order (entry_code width e) (key es j) ≡ Less
  unfolding follow
  follows e [] t j h = absurd (omega arith)
  follows e (f ∷ fs) t zero h = told_before _ (and_left _ _ t)
  follows e (f ∷ fs) t (suc j) h =
      order_transitive _ _ _ (told_before _ (and_left _ _ t)) (follows f fs (and_right _ _ t) j (omega arith))

  rest : (e : List ℕ) (es : List (List ℕ)) → follow width e es ≡ true → ascend width es ≡ true
  unfolding follow ascend
  rest e [] t = refl
  rest e (f ∷ fs) t = and_right _ _ t

  ascends : (es : List (List ℕ)) → ascend width es ≡ true → (i j : ℕ) → i < j → j < length es → order (key es i) (key es j) ≡ Less
  unfolding ascend
  ascends [] t i j l h = absurd (omega arith)
  ascends (e ∷ es) t i zero l h = absurd (omega arith)
  ascends (e ∷ es) t zero (suc j) l h = follows e es t j (omega arith)
  ascends (e ∷ es) t (suc i) (suc j) l h = ascends es (rest e es t) i j (omega arith) (omega arith)

  -- the first entry that has the code is the one that is meant
  first : (es : List (List ℕ)) (x : List ℕ) (m : ℕ) → m < length es → key es m ≡ x → ((j : ℕ) → j < m → key es j ≡ x → ⊥) → Some (get_or es m []) ≡ entry_for width es x
  unfolding entry_for
  first [] x m h e d = absurd (omega arith)
  first (f ∷ es) x zero h e d = choose_yes _ _ _ _ (rw e (alike_self x)) refl
  first (f ∷ es) x (suc m) h e d =
      choose_no _ _ _ _ (apart _ _ (d 0 (omega arith))) (first es x m (omega arith) e (λ j l. d (suc j) (omega arith)))

  -- an entry of a section is found by its code
  pub present : (es : List (List ℕ)) (x : List ℕ) (m : ℕ) → ascend width es ≡ true → m < length es → key es m ≡ x → Some (get_or es m []) ≡ entry_for width es x
  present es x m u h k = first es x m h k (λ j l q. before_not _ _ (ascends es u j m l h) (q ∙ sym k))

  -- and a code that no entry has is not found
  pub absent : (es : List (List ℕ)) (x : List ℕ) → ((j : ℕ) → j < length es → key es j ≡ x → ⊥) → None ≡ entry_for width es x
  unfolding entry_for
  absent [] x d = refl
  absent (f ∷ es) x d = choose_no _ _ _ _ (apart _ _ (d 0 (omega arith))) (absent es x (λ j l. d (suc j) (omega arith)))

-- the code of entry j of a section
abbrev key_at : List ℕ → Section → ℕ → List ℕ
key_at book s j = key s.code (entries_at book s) j

-- where an entry's code stands
abbrev code_field : Section → Field
code_field s = text 1 s.code

-- entry m as it is read from the book
abbrev part_at : List ℕ → Section → ℕ → List ℕ
part_at book s m = take (s.start + m * s.entry + s.entry - (s.start + m * s.entry)) (drop (s.start + m * s.entry) book)

entries_length : (book : List ℕ) (s : Section) → length (entries_at book s) ≡ s.count
unfolding entries_at
entries_length book s = cut_count _ _ _

part_is : (book : List ℕ) (s : Section) (m : ℕ) → m < s.count → part_at book s m ≡ get_or (entries_at book s) m []
unfolding entries_at
part_is book s m h = rw add-sub_cancel_left (sym (cut_at _ _ _ m h ∙ rw drop-drop))

-- what a search for the code x knows
abbrev pub Sought : List ℕ → Section → List ℕ → ℕ → ℕ → Type 0
Sought book s x low high = Bracket (key_at book s) s.count x low high

module _ (book : List ℕ) (s : Section) (x : List ℕ) (low high : ℕ) (b : Sought book s x low high) where
  inner : low < high → middle low high < s.count
  inner l = omega (arith, b.inside)

  -- the middle entry ends where the section ends, or before
  pub fits : low < high → middle low high * s.entry + s.entry ≤ s.count * s.entry
  fits l = before _ _ s.entry (inner l)

  module _ (sh : Shelved book s) where
    -- their codes ascend
    up : (i j : ℕ) → i < j → j < s.count → order (key_at book s i) (key_at book s j) ≡ Less
    up i j l h = ascends s.code (entries_at book s) sh.ascending i j l (omega (arith, entries_length book s))

    pub has_code : low < high → Has (part_at book s (middle low high)) (code_field s)
    has_code l =
        let r = fits l in
        (omega arith, simp (add-sub_cancel_left, length-take, length-drop) (omega arith))

    pub missed : high ≤ low → None ≡ entry_for s.code (entries_at book s) x
    missed h = absent _ _ _ (λ j l. end_none (key_at book s) s.count x low high b h j (omega (arith, entries_length book s)))

    -- r is how the middle entry stands to x
    module _ (r : Ordering) (lt : low < high) (e : r ≡ order (held (seen lent (part_at book s (middle low high))) (code_field s)) x) where
      -- that code is read where it stands
      known : r ≡ order (key_at book s (middle low high)) x
      unfolding entry_code
      known = e ∙ rw (part_is book s (middle low high) (inner lt))

      pub hit : r ≡ Equal → Some (part_at book s (middle low high)) ≡ entry_for s.code (entries_at book s) x
      hit t =
          let k : key_at book s (middle low high) ≡ x = same_is (key_at book s) s.count x up (middle low high) (sym known ∙ t) in
          ap Some (part_is book s (middle low high) (inner lt)) ∙ present _ _ _ _ sh.ascending (omega (arith, inner lt, entries_length book s)) k

      pub sought_raised : r ≡ Less → Sought book s x (middle low high + 1) high
      sought_raised t = raised (key_at book s) s.count x up (middle low high) low high b (omega arith) (sym known ∙ t)

      pub sought_lowered : r ≡ Greater → Sought book s x low (middle low high)
      sought_lowered t = lowered (key_at book s) s.count x up (middle low high) low high b (omega arith) (omega arith) (sym known ∙ t)

-- an entry that was looked for by what the field holds
pub found_by : (width : ℕ) (es : List (List ℕ)) (v x : List ℕ) (r : Option (List ℕ)) → x ≡ v → r ≡ entry_for width es x → r ≡ entry_for width es v
found_by width es v x r e q = q ∙ ap (entry_for width es) e

-- what is shorter than an entry with a flag has none
pub no_flag : (e : List ℕ) → length e < 9 → false ≡ flag_of e
unfolding flag_of
no_flag e h =
    let n : length e ≤ 8 = omega arith in
    rw (get_or-eq_default e 0 n)

-- nothing is said of a blank field, nor of a code that is not listed, and of any other its entry's flag
module _ (width : ℕ) (es : List (List ℕ)) (v : List ℕ) where
  pub unsaid : blank v ≡ true → None ≡ listing width es v
  unfolding listing choose
  unsaid e = rw e

  pub unlisted : blank v ≡ false → None ≡ entry_for width es v → None ≡ listing width es v
  unfolding listing choose
  unlisted b e = rw (b, ← e)

  pub said_of : (e : List ℕ) (r : Bool) → blank v ≡ false → Some e ≡ entry_for width es v → r ≡ flag_of e → Some r ≡ listing width es v
  unfolding listing choose
  said_of e r b h q = rw (b, ← h, q)

-- a section of a kind has codes of its width
pub said_as : (bytes : List ℕ) (k : Kind) (s : Section) (v : List ℕ) (r : Option Bool) → ShelvedAs bytes k s → r ≡ listing s.code (entries_at bytes s) v → r ≡ listing k.code (entries_at bytes s) v
said_as bytes k s v r a h = h ∙ rw a.coded

-- an entry that was found in a section of a kind
pub found_in : (bytes : List ℕ) (k : Kind) (s : Section) (v : List ℕ) (r : Option (List ℕ)) → ShelvedAs bytes k s → r ≡ entry_for s.code (entries_at bytes s) v → r ≡ entry_for k.code (entries_at bytes s) v
found_in bytes k s v r a h = h ∙ rw a.coded

-- there is none where the book has none
pub none_in : (bytes : List ℕ) (k : Kind) (s : Section) (v : List ℕ) (r : Option (Bor (List ℕ))) (t : Bool) → ShelvedAs bytes k s
    → option_copied r ≡ entry_for s.code (entries_at bytes s) v → is_some r ≡ not t → t ≡ is_none (entry_for k.code (entries_at bytes s) v)
none_in bytes k s v r t a h n = go r t n ∙ ap is_none (found_in bytes k s v (option_copied r) a h)
  where
    go : (q : Option (Bor (List ℕ))) (t : Bool) → is_some q ≡ not t → t ≡ is_none (option_copied q)
    go (Some x) true e = absurd (true≢false e)
    go (Some x) false e = refl
    go None true e = refl
    go None false e = absurd (true≢false (sym e))
