use Rattle.std.specs.Prelude.{true, false}
use Rattle.rpki_der.specs.TagName.{null, boolean, integer, oid, bit_string, printable_string, utf8_string, ia5_string}
use Rattle.rpki_der.specs.Leaves.{IsNull, IsBoolean, IsOnly, IsOidOf, IsBits, boolean_contents}
use Rattle.rpki_der.specs.Integer.{IsUnsigned, IsUnsignedBelow}
use Rattle.rpki_der.specs.Text.{IsPrintableText, IsUtf8Text, IsIa5Text}
use Rattle.rpki_der.specs.WantedValue.{IsAnyTag, IsTagged}
use Rattle.rpki_der.proofs.FaultKindLaws.{one-contents-fault, one-flat-fault, one-leaf-fault}
use Rattle.rpki_der.proofs.laws.one_refusal.Goals as goal

pub returns-clause-values : goal.returns-clause-values
returns-clause-values c = one-contents-fault

pub returns-clause-flat : goal.returns-clause-flat
returns-clause-flat c = one-flat-fault IsAnyTag

pub returns-clause-tagged : goal.returns-clause-tagged
returns-clause-tagged c = λ t. one-flat-fault (IsTagged t)

pub returns-clause-nulls : goal.returns-clause-nulls
returns-clause-nulls c = one-leaf-fault null false IsNull

pub returns-clause-booleans : goal.returns-clause-booleans
returns-clause-booleans c = one-leaf-fault boolean false IsBoolean

pub returns-clause-numbers : goal.returns-clause-numbers
returns-clause-numbers c = one-leaf-fault integer false IsUnsigned

pub returns-clause-identifiers : goal.returns-clause-identifiers
returns-clause-identifiers c = one-leaf-fault oid false IsOidOf

pub returns-clause-bits : goal.returns-clause-bits
returns-clause-bits c = one-leaf-fault bit_string false IsBits

pub returns-clause-printable : goal.returns-clause-printable
returns-clause-printable c = one-leaf-fault printable_string false IsPrintableText

pub returns-clause-utf8 : goal.returns-clause-utf8
returns-clause-utf8 c = one-leaf-fault utf8_string false IsUtf8Text

pub returns-clause-ia5 : goal.returns-clause-ia5
returns-clause-ia5 c = one-leaf-fault ia5_string false IsIa5Text

pub returns-clause-small : goal.returns-clause-small
returns-clause-small c = λ bound. one-leaf-fault integer false (IsUnsignedBelow bound)

pub returns-clause-written : goal.returns-clause-written
returns-clause-written c = one-leaf-fault boolean false (IsOnly (boolean_contents true))
