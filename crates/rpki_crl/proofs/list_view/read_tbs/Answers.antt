use Rattle.rpki_crl.proofs.ListViewLaws.{tbs-handed, tbs-handed-wrong}
use Rattle.rpki_crl.proofs.list_view.read_tbs.Goals as goal

pub returns-in-Ok-clause-ok : goal.returns-in-Ok-clause-ok
returns-in-Ok-clause-ok c = tbs-handed _ _ c.read_fields.result c.in-Ok.ensures.gives.0 c.read_fields.ensures.ok

pub returns-in-Ok-clause-err : goal.returns-in-Ok-clause-err
returns-in-Ok-clause-err c =
    tbs-handed-wrong _ _ c.read_fields.result c.in-Ok.ensures.gives.0 c.read_fields.ensures.err
