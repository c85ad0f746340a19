use Rattle.std.specs.Option.{option_copied}
use Rattle.rpki_cert.specs.Known.{subject_info_access}
use Rattle.rpki_cert.specs.Access.{SpellsHttpsAccess, rpki_notify}
use Rattle.rpki_cert.specs.Cert.{find}
use Rattle.rpki_cert.proofs.KnownLaws.{kept-uri, tried-unless}
use Rattle.rpki_cert.proofs.tbs.TbsCert.rpki_notify.Goals as goal

pub returns-in_err-found : goal.returns-in_err-found
returns-in_err-found c =
    let told = rw (c.find_kept.ensures, c.extensions.ensures) at c.information_in-told.ensures in
    tried-unless _ _ _ _ c.from_residual.ensures
    (c.in_err-found.ensures (find subject_info_access c.args.self.now.extensions) told).0

pub returns : goal.returns
returns c =
    let told = rw (c.find_kept.ensures, c.extensions.ensures) at c.information_in-told.ensures in
    kept-uri (SpellsHttpsAccess rpki_notify) (find subject_info_access c.args.self.now.extensions)
    (option_copied c.in_ok-found.found) c.keep_https.result
    (c.in_ok-found.ensures (find subject_info_access c.args.self.now.extensions) told)
    c.keep_https.ensures.ok c.keep_https.ensures.err
