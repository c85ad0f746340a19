use Rattle.std.proofs.Common.{◌≡◌, drop}
use Rattle.rpki_cert.specs.Access.{first_https, named}
use Rattle.rpki_request.specs.Request.{descriptions_in}
use Rattle.rpki_request.proofs.access.https_of.Given as goal

abbrev pub invariant-descriptions : goal.invariant-descriptions
invariant-descriptions l =
    first_https (named l.method.0.now (descriptions_in l.all))
    ≡ first_https (named l.method.0.now (descriptions_in (drop l.description-index l.all)))
