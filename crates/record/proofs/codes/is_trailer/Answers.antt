use Rattle.record.specs.Codes.{is_trailer}
use Rattle.record.proofs.OtherCodes.{not_trailer}
use Rattle.record.proofs.codes.is_trailer.Goals as goal

pub returns-in-BatchTrailer : goal.returns-in-BatchTrailer
unfolding is_trailer
returns-in-BatchTrailer c = cc

pub returns-in_default : goal.returns-in_default
returns-in_default c = not_trailer _ c.in_default.not-BatchTrailer
