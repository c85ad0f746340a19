use Rattle.rpki_time.proofs.TextLaws.{utc-reads-cut, generalized-reads-cut, utc-unique, generalized-unique, in-window}
use Rattle.rpki_time.proofs.TextLaws.{is-in-window}
use Rattle.rpki_time.proofs.laws.texts_read_back.Goals as goal

pub returns-clause-utc : goal.returns-clause-utc
returns-clause-utc c = λ t. (λ h. h.year, utc-reads-cut t)

pub returns-clause-generalized : goal.returns-clause-generalized
returns-clause-generalized c = generalized-reads-cut

pub returns-clause-one_utc : goal.returns-clause-one_utc
returns-clause-one_utc c = utc-unique

pub returns-clause-one_generalized : goal.returns-clause-one_generalized
returns-clause-one_generalized c = generalized-unique

pub returns-clause-window : goal.returns-clause-window
returns-clause-window c = λ y. (in-window y, is-in-window y)
