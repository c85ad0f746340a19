use Rattle.rpki_der.proofs.FormatLaws.{tried, given, first, last, after, all, and}
use Rattle.rpki_contents.specs.Aspa.{listed_of, fields}
use Rattle.rpki_contents.proofs.aspa.fn.take_listed.in_sequence.Goals as goal

pub returns-in_err-take_version : goal.returns-in_err-take_version
returns-in_err-take_version c = tried listed_of fields _ _ c.from_residual.ensures (first c.in_err-take_version.ensures)

pub returns-in_err-customer : goal.returns-in_err-customer
returns-in_err-customer c =
    tried listed_of fields _ _ c.from_residual-in_err-customer.ensures
    (after c.in_ok-take_version.ensures (first c.in_err-customer.ensures))

pub returns-in_err-providers : goal.returns-in_err-providers
returns-in_err-providers c =
    tried listed_of fields _ _ c.from_residual-in_err-providers.ensures
    (after c.in_ok-take_version.ensures (after c.in_ok-customer.ensures (last c.in_err-providers.ensures)))

pub returns : goal.returns
returns c =
    given (and c.in_ok-take_version.ensures (and c.in_ok-customer.ensures (all c.in_ok-providers.ensures)))
