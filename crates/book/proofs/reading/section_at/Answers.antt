use native.Mathlib.Omega.{arith}
use Rattle.book.proofs.Frames.{frame_of, in_frame, no_frame, no_section, a_section, past_inside}
use borrow.Author.Rules.{rules}
use Rattle.book.proofs.reading.section_at.Goals as goal

pub returns-then-not-is_framed : goal.returns-then-not-is_framed
returns-then-not-is_framed c = (no_frame _ _ _ _ c.is_framed.ensures c.if-not-is_framed.true, search rules)

pub size_at-requires : goal.size_at-requires
size_at-requires c = omega (arith, (frame_of _ _ _ _ c.is_framed.ensures c.if-not-is_framed.false).head)

pub overflow_sub-section : goal.overflow_sub-section
overflow_sub-section c = omega (arith, (frame_of _ _ _ _ c.is_framed.ensures c.if-not-is_framed.false).least, c.size_at.ensures.0)

pub is_sound-requires : goal.is_sound-requires
is_sound-requires c =
    record {
      within = in_frame _ _ _ _ c.is_framed.ensures c.if-not-is_framed.false _ c.size_at.ensures.0;
      whole = search rules;
      flag = search rules;
    }

pub returns-then-not-is_sound : goal.returns-then-not-is_sound
returns-then-not-is_sound c =
    (no_section _ _ _ _ c.is_framed.ensures c.if-not-is_framed.false _ c.size_at.ensures.0 _ c.is_sound.ensures c.if-not-is_sound.true, search rules)

pub returns : goal.returns
returns c =
    let t = c.if-not-is_framed.false in (
      a_section _ _ _ _ c.is_framed.ensures t _ c.size_at.ensures.0 _ c.is_sound.ensures c.if-not-is_sound.false,
      past_inside _ _ _ _ c.is_framed.ensures t _ c.size_at.ensures.0 c.requires.0,
    )
