use Rattle.std.proofs.Common.{◌≡◌, drop}
use Rattle.rpki_cert.specs.Access.{first_rsync, named}
use Rattle.rpki_request.specs.Request.{descriptions_in}
use Rattle.rpki_request.proofs.access.rsync_of.Given as goal

abbrev pub invariant-descriptions : goal.invariant-descriptions
invariant-descriptions l =
    first_rsync (named l.method.0.now (descriptions_in l.all))
    ≡ first_rsync (named l.method.0.now (descriptions_in (drop l.description-index l.all)))
