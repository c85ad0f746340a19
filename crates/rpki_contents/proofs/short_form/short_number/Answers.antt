use Rattle.rpki_contents.proofs.ShortLaws.{number-accepted}
use Rattle.rpki_contents.proofs.short_form.short_number.Goals as goal

pub returns-in-Some-number_in : goal.returns-in-Some-number_in
returns-in-Some-number_in c =
    number-accepted c.args.octets.now c.in-Some.contents.now c.in-Some.rest.now c.in-Some-number_in.number
    c.in-Some.ensures.some c.in-Some-number_in.ensures
