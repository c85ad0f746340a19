use Rattle.rpki_valid.proofs.ResourceSetLaws.{only-claim}
use Rattle.rpki_valid.proofs.resource.claim.claim_of.Goals as goal

pub returns-in-Ok-keep_numbers-clause-claimed : goal.returns-in-Ok-keep_numbers-clause-claimed
returns-in-Ok-keep_numbers-clause-claimed c =
    only-claim c.args.cert.now.extensions c.in-Ok.found c.in-Ok-as_resources.listed c.in-Ok-keep_addresses.addresses
    c.in-Ok-keep_numbers.numbers c.in-Ok.ensures
    c.in-Ok-keep_addresses.ensures.kept c.in-Ok-keep_addresses.ensures.only c.in-Ok-as_resources.ensures
    c.in-Ok-keep_numbers.ensures.kept c.in-Ok-keep_numbers.ensures.only
