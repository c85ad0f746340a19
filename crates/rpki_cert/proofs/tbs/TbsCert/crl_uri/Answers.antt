use Rattle.std.specs.Option.{option_copied}
use Rattle.rpki_cert.specs.Known.{crl_distribution_points}
use Rattle.rpki_cert.specs.Access.{SpellsPoints}
use Rattle.rpki_cert.specs.Cert.{find}
use Rattle.rpki_cert.proofs.KnownLaws.{kept-uri, tried-unless}
use Rattle.rpki_cert.proofs.tbs.TbsCert.crl_uri.Goals as goal

pub returns-in_err-found : goal.returns-in_err-found
returns-in_err-found c = tried-unless _ _ _ _ c.from_residual.ensures
    (rw (c.find_kept.ensures, c.extensions.ensures) at c.in_err-found.ensures).0

pub returns : goal.returns
returns c =
    kept-uri SpellsPoints (find crl_distribution_points c.args.self.now.extensions) (option_copied c.in_ok-found.found)
    c.keep_rsync.result (rw (c.find_kept.ensures, c.extensions.ensures) at c.in_ok-found.ensures)
    c.keep_rsync.ensures.ok c.keep_rsync.ensures.err
