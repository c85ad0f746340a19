use Rattle.rpki_text.proofs.LawLaws.{spelled, parses-again}
use Rattle.rpki_text.proofs.PartLaws.{uri_of-parts}
use Rattle.rpki_text.proofs.uri.rsync.Rsync.as_slice.Goals as goal

pub returns-clause-spelled : goal.returns-clause-spelled
returns-clause-spelled c = rw (← c.self.view_is) (spelled _ _ _ c.self.invariant)

pub returns-clause-parses_again : goal.returns-clause-parses_again
returns-clause-parses_again c = rw (← c.self.view_is) (parses-again _ c.self.invariant.form)

pub returns-clause-uri : goal.returns-clause-uri
returns-clause-uri c = rw (← c.self.view_is) (uri_of-parts _ _ _ c.self.invariant)

pub returns-clause-form : goal.returns-clause-form
returns-clause-form c = rw (← c.self.view_is) c.self.invariant.form
