use Rattle.rpki_text.proofs.OwnLaws.{own-https-joined}
use Rattle.rpki_text.proofs.uri.https_cut.HttpsCut.joined.Goals as goal

pub returns-clause-text : goal.returns-clause-text
returns-clause-text c a = rw (c.new.ensures, c.ends_in_slash.ensures, c.path.ensures)
    (own-https-joined c.args.self.now c.args.path.now a)
