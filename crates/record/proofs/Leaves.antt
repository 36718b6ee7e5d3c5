-- From the bytes at the place of a field to what the field holds.
-- Assumes nothing.
use mathlib.Core.Path.{◌≡◌, refl, sym, ap, ◌∙◌}
use mathlib.Core.Bool.{Bool, true, false, not}
use mathlib.Core.List.{List}
use Prim.Native.Nat.{ℕ}
use native.Mathlib.Omega.{arith}
use lib.Dec.{eqb}
use lib.Seq.{slice, take_all}
use Rattle.page.specs.CodePage.{shown}
use Rattle.record.specs.declared.Field.{Field}
use Rattle.record.specs.declared.Line.{Line}
use Rattle.std.specs.declared.cmp.Ordering.{Ordering}
use Rattle.std.specs.Ordering.{is_eq}
use Rattle.record.specs.declared.Justification.TheVariants.{Fixed}
use Rattle.record.specs.declared.place.Place.{Place}
use Rattle.record.specs.Choice.{◌and◌}
use Rattle.record.specs.Correction.{corrected}
use Rattle.record.specs.Moved.{in_place, readable}
use Rattle.record.specs.Numeral.{numeral}
use Rattle.record.specs.Ordering.{order}
use Rattle.record.specs.Place.{value, sent, PlaceOf}
use Rattle.record.specs.Tests.{every, only, zeros, digit, digits, solid, alike}
use Rattle.record.specs.Value.{Has, seen, written, held}
use Rattle.record.proofs.Chain.{and_left, and_right}
use Rattle.record.proofs.Every.{whole, digits_part}
use Rattle.record.proofs.Held.{held_length, held_digits, held_of, stands_of, readable_plain, readable_held}
use Rattle.record.proofs.Parts.{filled_stays}
use Rattle.record.proofs.Sent.{plain_sent, order_alike}

-- every byte of a value that is moved: none passes, or those of the part that decides do
module _ (rec : List ℕ) (f : Field) (xs : List ℕ) (e : xs ≡ written rec f) (r : Bool) where
  module _ (fails : (q : ℕ → Bool) → q 0x40 ≡ false → every q (corrected f.justification xs) ≡ false) where
    pub zeros_fail : false ≡ zeros (held rec f)
    unfolding only
    zeros_fail = sym (ap zeros (sym (held_of rec f xs e)) ∙ fails (λ (x : ℕ). eqb x 0xF0) refl)

    pub digits_fail : false ≡ digits (held rec f)
    unfolding digits digit ◌and◌
    digits_fail = sym (ap digits (sym (held_of rec f xs e)) ∙ fails digit refl)

    pub solid_fails : false ≡ solid (held rec f)
    unfolding solid
    solid_fails = sym (ap solid (sym (held_of rec f xs e)) ∙ fails (λ (x : ℕ). not (eqb x 0x40)) refl)

  module _ (ys : List ℕ) (decides : (q : ℕ → Bool) → q 0xF0 ≡ true → every q (corrected f.justification xs) ≡ every q ys) where
    pub zeros_of : r ≡ zeros ys → r ≡ zeros (held rec f)
    unfolding only
    zeros_of q = q ∙ sym (decides (λ (x : ℕ). eqb x 0xF0) refl) ∙ ap zeros (held_of rec f xs e)

    pub digits_of : r ≡ digits ys → r ≡ digits (held rec f)
    unfolding digits digit ◌and◌
    digits_of q = q ∙ sym (decides digit refl) ∙ ap digits (held_of rec f xs e)

    pub solid_of : r ≡ solid ys → r ≡ solid (held rec f)
    unfolding solid
    solid_of q = q ∙ sym (decides (λ (x : ℕ). not (eqb x 0x40)) refl) ∙ ap solid (held_of rec f xs e)

  -- bytes that are digits, or none of them blank, stand in their place
  pub solid_sees : r ≡ solid xs → r ≡ true → true ≡ solid (held rec f)
  unfolding solid held
  solid_sees q h = sym (ap solid (sym (held_of rec f xs e) ∙ filled_stays f.justification xs (sym q ∙ h)) ∙ sym q ∙ h)

pub digits_see : (rec : List ℕ) (p : Place) (line : Line) (f : Field) (r : Bool) → PlaceOf rec line f p → r ≡ digits (slice 0 f.width (value rec p)) → r ≡ true → true ≡ digits (held (seen line rec) f)
digits_see rec p line f r o q h =
    let n : slice 0 f.width (value rec p) ≡ written (seen line rec) f = whole rec p f.width o.within o.wide ∙ o.holds in
    let d : digits (written (seen line rec) f) ≡ true = ap digits (sym n) ∙ sym q ∙ h in
    sym (ap digits (held_digits (seen line rec) f d) ∙ d)

-- a value that stands in its place
module _ (rec : List ℕ) (f : Field) (xs : List ℕ) (e : xs ≡ written rec f) (t : Bool) (u : t ≡ in_place f.justification xs) (h : t ≡ true) where
  stood : xs ≡ held rec f
  stood = stands_of rec f xs e t u h

  pub zeros_stand : (r : Bool) → r ≡ zeros xs → r ≡ zeros (held rec f)
  zeros_stand r q = q ∙ ap zeros stood

  pub text_stands : (text : List ℕ) (r : Bool) → r ≡ alike xs text → r ≡ alike (held rec f) text
  text_stands text r q = q ∙ ap (λ (ys : List ℕ). alike ys text) stood

  pub digits_held : (a b : ℕ) → digits (held rec f) ≡ true → digits (slice a b xs) ≡ true
  digits_held a b d = digits_part a b xs (digits xs) refl (ap digits stood ∙ d)

  pub number_stands : (a b r : ℕ) → r ≡ numeral (slice a b xs) → r ≡ numeral (slice a b (held rec f))
  number_stands a b r q = q ∙ ap (λ (ys : List ℕ). numeral (slice a b ys)) stood

  pub copy_stands : (ys : List ℕ) → ys ≡ xs → ys ≡ held rec f
  copy_stands ys q = q ∙ stood

-- one that is moved
module _ (rec : List ℕ) (f : Field) (xs : List ℕ) (e : xs ≡ written rec f) where
  pub digits_moved : digits (held rec f) ≡ true → digits (corrected f.justification xs) ≡ true
  digits_moved d = ap digits (held_of rec f xs e) ∙ d

  pub number_moved : (a b r : ℕ) → r ≡ numeral (slice a b (corrected f.justification xs)) → r ≡ numeral (slice a b (held rec f))
  number_moved a b r q = q ∙ ap (λ (ys : List ℕ). numeral (slice a b ys)) (held_of rec f xs e)

  pub copy_moved : (ys : List ℕ) → ys ≡ corrected f.justification xs → ys ≡ held rec f
  copy_moved ys q = q ∙ held_of rec f xs e

  pub order_text : (ys text : List ℕ) (o : Ordering) → ys ≡ text → o ≡ order (corrected f.justification xs) (corrected Fixed ys) → o ≡ order (held rec f) text
  unfolding corrected
  order_text ys text o q h = h ∙ ap (order (corrected f.justification xs)) q ∙ ap (λ (zs : List ℕ). order zs text) (held_of rec f xs e)

  pub text_same : (ys text : List ℕ) (o : Ordering) → ys ≡ text → o ≡ order (corrected f.justification xs) (corrected Fixed ys) → (r : Bool) → r ≡ is_eq o → r ≡ alike (held rec f) text
  text_same ys text o q h r t = t ∙ order_alike (held rec f) text o (order_text ys text o q h)

  module _ (other : List ℕ) (ys : List ℕ) (k : ys ≡ written other f) (o : Ordering) (h : o ≡ order (corrected f.justification xs) (corrected f.justification ys)) where
    pub order_moved : o ≡ order (held rec f) (held other f)
    order_moved = h ∙ ap (order (corrected f.justification xs)) (held_of other f ys k) ∙ ap (λ (zs : List ℕ). order zs (held other f)) (held_of rec f xs e)

    pub same_moved : (r : Bool) → r ≡ is_eq o → r ≡ alike (held rec f) (held other f)
    same_moved r t = t ∙ order_alike (held rec f) (held other f) o order_moved

-- a number over the full width
pub number_whole : (ascii : Bool) (rec : List ℕ) (f : Field) (r : ℕ) → Has rec f → r ≡ numeral (slice 0 f.width (held (shown ascii rec) f)) → r ≡ numeral (held (shown ascii rec) f)
number_whole ascii rec f r h q = q ∙ ap numeral (take_all f.width (held (shown ascii rec) f) (omega (arith, held_length ascii rec f h)))

-- what is readable, at its place
pub readable_sent : (line : Line) (rec : List ℕ) (f : Field) (p : Place) → PlaceOf rec line f p → readable line f rec ≡ true → sent rec p ≡ held (seen line rec) f
unfolding shown
readable_sent line rec f p o e =
    let a = readable_plain line rec f e in
    sym (plain_sent rec p (o.coded ∙ a)) ∙ o.holds ∙ ap (λ (c : Bool). written (shown c rec) f) a ∙ readable_held line rec f e

module _ (line : Line) (rec : List ℕ) (f : Field) (p : Place) (o : PlaceOf rec line f p) where
  pub order_readable : (t : Bool) (bytes ys : List ℕ) (r : Ordering) → t ≡ readable line f rec → t ≡ true → ys ≡ bytes → r ≡ order (sent rec p) ys → r ≡ order (held (seen line rec) f) bytes
  order_readable t bytes ys r u h k q =
      q ∙ ap (order (sent rec p)) k ∙ ap (λ (zs : List ℕ). order zs bytes) (readable_sent line rec f p o (sym u ∙ h))

  module _ (other-line : Line) (other : List ℕ) (q : Place) (n : PlaceOf other other-line f q) (t : Bool) (u : t ≡ (readable line f rec and readable other-line f other)) (h : t ≡ true) where
    left : sent rec p ≡ held (seen line rec) f
    left = readable_sent line rec f p o (and_left _ _ (sym u ∙ h))

    right : sent other q ≡ held (seen other-line other) f
    right = readable_sent other-line other f q n (and_right (readable line f rec) _ (sym u ∙ h))

    pub order_both : (r : Ordering) → r ≡ order (sent rec p) (sent other q) → r ≡ order (held (seen line rec) f) (held (seen other-line other) f)
    order_both r k = k ∙ ap (order (sent rec p)) right ∙ ap (λ (zs : List ℕ). order zs (held (seen other-line other) f)) left

    pub same_both : (r : Bool) → r ≡ alike (sent rec p) (sent other q) → r ≡ alike (held (seen line rec) f) (held (seen other-line other) f)
    same_both r k = k ∙ ap (alike (sent rec p)) right ∙ ap (λ (zs : List ℕ). alike zs (held (seen other-line other) f)) left

-- a copy of bytes as they were sent
pub copy_plain : (line : Line) (rec : List ℕ) (f : Field) (p : Place) (ys : List ℕ) → PlaceOf rec line f p → line.ascii ≡ false → ys ≡ sent rec p → ys ≡ value rec p
copy_plain line rec f p ys o a q = q ∙ sym (plain_sent rec p (o.coded ∙ a))
