use Rattle.rpki_text.proofs.OwnLaws.{own-https-start}
use Rattle.rpki_text.proofs.uri.https_cut.HttpsCut.of.Goals as goal

pub invariant_of-result : goal.invariant_of-result
invariant_of-result c = record { laid_out = own-https-start _ _ c.requires }
