-- The tests before the report's room, and what they leave.
-- Assumes nothing.
use mathlib.Core.Path.{◌≡◌, refl, sym, ◌∙◌, ap}
use mathlib.Core.Bool.{Bool, true, false, true≢false}
use mathlib.Core.List.{List, ◌∷◌}
use Prim.Native.Nat.{ℕ, ◌≤◌}
use native.Mathlib.Omega.{arith}
use lib.ListN.{length}
use Rattle.calendar.specs.Clock.{lendable}
use Rattle.page.specs.CodePage.{shown}
use Rattle.page.proofs.Shown.{shown_length}
use Rattle.book.specs.declared.Book.{Book}
use Rattle.book.specs.Book.{Contents, Lists, Opened, placed}
use Rattle.book.specs.Book.Opened.{sound, unsound}
use Rattle.std.specs.Prelude.{Option, Some, None, Result, Ok, Err}
use Rattle.verdict.specs.declared.reason.Reason.{Reason}
use Rattle.nesting.specs.Division.{Division, DivisionOf}
use Rattle.nesting.specs.Records.{records, Cuttable}
use Rattle.nesting.specs.Promise.{RefusedAt}
use Rattle.characters.specs.Characters.{first_unclean}
use Rattle.survey.specs.declared.Survey.{Survey}
use Rattle.survey.specs.Survey.{Surveyed, divided as divided_as}
use Rattle.verdict.specs.declared.Accepted.{Accepted}
use Rattle.verdict.specs.declared.Refusal.{Refusal}
use Rattle.verdict.specs.Answer.{refusal, acceptance, Judgement}
use Rattle.verdict.specs.declared.reason.Reason.TheVariants.{BookUnsound, NoDay, Nesting}
use Rattle.verdict.specs.Answer.Judgement.{refused}
use Rattle.verdict.specs.Order.{length_reason, from_room, from_book, Known, Clear, Roomed}
use Rattle.verdict.proofs.Ends.{count_of}
use Rattle.verdict.proofs.Tests.{clear_next, given, Tested, clear_by, refused_by, lengths, cuttable}

-- what reading a book comes to
no_contents : (book : List ℕ) (r : Option Book) → Opened book r → r ≡ None → (c : Contents) → Lists book c → ⊥
no_contents book r (sound c l) e = absurd (cc)
no_contents book r (unsound n) e = n

record Listed (book : List ℕ) (s : Book) : Type 0 where
  contents : Contents
  lists : Lists book contents
  opened : s ≡ placed contents

some_contents : (book : List ℕ) (r : Option Book) (s : Book) → Opened book r → r ≡ Some s → Listed book s
some_contents book r s (sound c l) e = record { contents = c; lists = l; opened = cc }
some_contents book r s (unsound n) e = absurd (cc)

-- what a pass over the records comes to
refused_at : (file : List ℕ) (t : Result Survey ℕ) → Surveyed file t → (m : ℕ) → t ≡ Err m → RefusedAt (records file) m
refused_at file t (Surveyed.legal d h) m e = absurd (cc)
refused_at file t (Surveyed.refused k r) m e = let q : k ≡ m = cc in rw (← q) r

record Nests (file : List ℕ) (s : Survey) : Type 0 where
  division : Division
  divided : DivisionOf (records file) division
  is : s ≡ divided_as (records file) division

nests : (file : List ℕ) (t : Result Survey ℕ) → Surveyed file t → (s : Survey) → t ≡ Ok s → Nests file s
nests file t (Surveyed.legal d h) s e = record { division = d; divided = h; is = cc }
nests file t (Surveyed.refused k r) s e = absurd (cc)

-- what holds whatever is lent for today holds of what is lent
pub roomed : (file book today : List ℕ) (room : ℕ) (v : Result Accepted Refusal) (a : Bool) → a ≡ lendable today → a ≡ true → Roomed file book room v → Judgement file book today room v
roomed file book today room v a e n r = r.judged today (sym e ∙ n)

-- any file, ASCII or not, and any book
module _ (ascii : Bool) (sent book today : List ℕ) (room : ℕ) (u : Option Reason) (e : u ≡ length_reason (length sent)) where
  abbrev file : List ℕ
  file = shown ascii sent

  length_read : Tested file book today room from_book 0 u
  length_read = rw (e, ← shown_length ascii sent) (lengths file book today room)

  pub unfit : (j : Reason) → u ≡ Some j → (v : Refusal) → v ≡ refusal j 0 → Judgement file book today room (Err v)
  unfit j n v q = rw q (refused_by file book today room length_read j n)

  module _ (z : u ≡ None) where
    fit : Clear file book today room from_book
    fit = clear_by file book today room length_read z

    fit_cuttable : Cuttable file
    fit_cuttable = cuttable file book today room fit

    pub sent_cuttable : Cuttable sent
    sent_cuttable = record { whole = rw (← shown_length ascii sent) fit_cuttable.whole; few = rw (← shown_length ascii sent) fit_cuttable.few }

    pub bookless : (r : Option Book) → Opened book r → r ≡ None → (v : Refusal) → v ≡ refusal BookUnsound 0 → Judgement file book today room (Err v)
    bookless r o n v q = rw q (refused BookUnsound 0 (given file book today room BookUnsound 0 fit (no_contents book r o n) refl))

    module _ (r : Option Book) (s : Book) (o : Opened book r) (y : r ≡ Some s) where
      listed : Listed book s
      listed = some_contents book r s o y

      sound_clear : Clear file book today room (NoDay ∷ Nesting ∷ from_room)
      sound_clear = clear_next file book today room BookUnsound fit (λ n. n listed.contents listed.lists)

      -- what is lent for today
      module _ (a : Bool) (lent : a ≡ lendable today) where
        pub dayless : a ≡ false → (v : Refusal) → v ≡ refusal NoDay 0 → Judgement file book today room (Err v)
        dayless n v q = rw q (refused NoDay 0 (given file book today room NoDay 0 sound_clear (sym lent ∙ n) refl))

        module _ (day : a ≡ true) where
          pub unnested : (t : Result Survey ℕ) → Surveyed file t → (m : ℕ) → t ≡ Err m → (v : Refusal) → v ≡ refusal Nesting m → Judgement file book today room (Err v)
          unnested t g m e v q =
              let h = refused_at file t g m e in
              let c = clear_next file book today room NoDay sound_clear (λ f. true≢false (sym day ∙ lent ∙ f)) in
              rw q (refused Nesting m (given file book today room Nesting m c h.none h))

      -- what the pass over the records found
      module _ (t : Result Survey ℕ) (g : Surveyed file t) where
        pub named_small : (m : ℕ) → t ≡ Err m → m ≤ 65536
        named_small m e = omega (arith, (refused_at file t g m e).to, count_of file, fit_cuttable.few)

        module _ (v : Survey) (q : t ≡ Ok v) where
          pub divided : Known file book (record { shelves = s; counts = v.counts; total = v.total })
          unfolding acceptance
          divided =
              let n = nests file t g v q in
              record {
                cuttable = fit_cuttable;
                contents = listed.contents;
                lists = listed.lists;
                division = n.division;
                divided = n.divided;
                accepts = cc (listed.opened, n.is);
              }

          pub first_unclean_holds : v.unclean ≡ first_unclean 1 (records file)
          first_unclean_holds = ap (λ (w : Survey). w.unclean) (nests file t g v q).is
