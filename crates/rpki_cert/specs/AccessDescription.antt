-- Where something is, as an extension says (RFC 5280 4.2.1.13, 4.2.2).
use Rattle.std.specs.Prelude.{ℕ, true, List, Option}
use Rattle.std.specs.Option.{option_copied}
use Rattle.rpki_der.specs.Prelude.{sequence, Format, any_oid, around, only, then}
use Rattle.rpki_der.specs.Prelude.{SpellsContents, IsContentsFault}
use Rattle.rpki_cert.specs.Access.{context_0}
use Rattle.rpki_cert.specs.GeneralName.{SpellsName, IsNameFault}
use Rattle.rpki_cert.specs.declared.extension.access_description.AccessDescription.{AccessDescription}

-- ---- a general name (RFC 5280 4.2.1.6): the text of a URI, or None for a name of another form

abbrev pub general_name : Format (Option (List ℕ))
general_name = record { spells = SpellsName; fault = IsNameFault }

-- ---- AccessDescription ::= SEQUENCE { accessMethod OBJECT IDENTIFIER, accessLocation GeneralName } (RFC 5280 4.2.2.1)

abbrev pub Description : Type 0
Description = List ℕ × Option (List ℕ)

abbrev pub description_of : AccessDescription → Description
description_of d = (d.method.0.now, option_copied d.location)

abbrev pub description_parts : Format Description
description_parts = then any_oid (only general_name)

abbrev pub description : Format Description
description = around sequence description_parts

-- ---- cRLDistributionPoints, of one point that has a full name and nothing else (RFC 5280 4.2.1.13, RFC 6487 4.8.6)

-- fullName [0] GeneralNames: the names, which are not read
abbrev pub names : Format (List ℕ)
names = record { spells = SpellsContents context_0 true; fault = IsContentsFault context_0 true }

-- distributionPoint [0] DistributionPointName, a CHOICE, and so under an explicit tag (X.680 31.2.7)
abbrev pub full_name : Format (List ℕ)
full_name = around context_0 (only names)

abbrev pub point : Format (List ℕ)
point = around sequence (only full_name)

abbrev pub points : Format (List ℕ)
points = around sequence (only point)
