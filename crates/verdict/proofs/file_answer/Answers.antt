use Rattle.verdict.proofs.Opening.{unfit, bookless, dayless, sent_cuttable, unnested, roomed, named_small, divided, first_unclean_holds}
use Rattle.verdict.proofs.file_answer.Goals as goal

pub returns-in-Some : goal.returns-in-Some
returns-in-Some c = unfit _ _ _ _ _ _ c.length_reason.ensures _ c.in-Some.is _ c.refuse.ensures

pub returns-in_default-read_book : goal.returns-in_default-read_book
returns-in_default-read_book c =
    bookless _ _ _ _ _ _ c.length_reason.ensures c.in_default.is _ c.read_book.ensures c.in_default-read_book.is _
    c.refuse-in_default-read_book.ensures

pub returns-then-not-is_lendable : goal.returns-then-not-is_lendable
returns-then-not-is_lendable c =
    dayless _ _ _ _ _ _ c.length_reason.ensures c.in_default.is _ _ c.read_book.ensures c.in-Some-read_book.is _ c.is_lendable.ensures
    c.if-not-is_lendable.true _ c.refuse-then-not-is_lendable.ensures

pub survey_file-requires : goal.survey_file-requires
survey_file-requires c = sent_cuttable c.args.ascii _ c.args.book.now c.args.today.now c.args.room _ c.length_reason.ensures c.in_default.is

pub refuse-requires-in-Err : goal.refuse-requires-in-Err
refuse-requires-in-Err c =
    named_small _ _ c.args.book.now c.args.today.now c.args.room _ c.length_reason.ensures c.in_default.is _ _ c.read_book.ensures c.in-Some-read_book.is _ c.survey_file.ensures _ c.in-Err.is

pub judge_divided-requires : goal.judge_divided-requires
judge_divided-requires c = (
  divided _ _ c.args.book.now c.args.today.now c.args.room _ c.length_reason.ensures c.in_default.is _ _ c.read_book.ensures c.in-Some-read_book.is _ c.survey_file.ensures _ c.in-Ok.is,
  first_unclean_holds _ _ c.args.book.now c.args.today.now c.args.room _ c.length_reason.ensures c.in_default.is _ _ c.read_book.ensures c.in-Some-read_book.is _ c.survey_file.ensures _ c.in-Ok.is,
)

pub returns-in-Err : goal.returns-in-Err
returns-in-Err c =
    unnested _ _ _ _ _ _ c.length_reason.ensures c.in_default.is _ _ c.read_book.ensures c.in-Some-read_book.is _ c.is_lendable.ensures
    c.if-not-is_lendable.false _ c.survey_file.ensures _ c.in-Err.is _ c.refuse-in-Err.ensures

pub returns-in-Ok : goal.returns-in-Ok
returns-in-Ok c = roomed _ _ _ _ _ _ c.is_lendable.ensures c.if-not-is_lendable.false c.judge_divided.ensures
