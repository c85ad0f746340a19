use Rattle.rpki_time.proofs.TimeValueLaws.{times-fit}
use Rattle.rpki_time.specs.Validity.{AreTimeYears}
use Rattle.rpki_time.proofs.PeriodReadingLaws.{period-fits, period-same, period-spelled}
use Rattle.rpki_time.proofs.validity.Validity.encode.Goals as goal

pub returns-clause-fits : goal.returns-clause-fits
returns-clause-fits c = (((tt, tt), times-fit c.new.result.0 c.new.result.1), period-fits c.args.self)

pub returns-clause-read_back : goal.returns-clause-read_back
returns-clause-read_back c =
    let years : AreTimeYears c.args.self = rw (← c.self.view_is) (record {
      not_before = c.encode_varied.ensures.year;
      not_after = c.encode_varied-2.ensures.year;
    }) in
    period-spelled c.args.self years

pub returns-clause-same : goal.returns-clause-same
returns-clause-same c =
    let years : AreTimeYears c.args.self = rw (← c.self.view_is) (record {
      not_before = c.encode_varied.ensures.year;
      not_after = c.encode_varied-2.ensures.year;
    }) in
    λ other there. period-same c.args.self other years there
