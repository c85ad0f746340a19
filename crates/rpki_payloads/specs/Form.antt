-- The text of payloads in a form.
use Rattle.std.specs.Prelude.{◌≡◌, ℕ, List, []}
use Rattle.jiff.specs.Types.{DateTime}
use Rattle.rpki_payloads.specs.declared.form.Form.{Form}
use Rattle.rpki_payloads.specs.declared.form.Form.TheVariants.{Csv, Json, StayRtr, OpenBgpd, OpenBgpdOrigins, Bird}
use Rattle.rpki_payloads.specs.declared.form.Form.TheVariants.{RpkiClient}
use Rattle.rpki_payloads.specs.declared.timed.TimedVrp.{TimedVrp}
use Rattle.rpki_payloads.specs.declared.vap.CustomerProvider.{CustomerProvider}
use Rattle.rpki_payloads.specs.declared.vrp.Vrp.{Vrp}
use Rattle.rpki_payloads.specs.Json.{json_text}
use Rattle.rpki_payloads.specs.Lines.{bird_text, client_text, csv_text, openbgpd_text}
use Rattle.rpki_payloads.specs.Payloads.{AreUnited, AreUnitedPairs, AreUnitedTimed, PayloadParts}
use Rattle.rpki_payloads.specs.StayRtr.{stay_text}
use Rattle.rpki_payloads.specs.Vap.{vaps}

-- In csv, of both kinds, and JSON, of both kinds, those of a locator follow those of the one before; in the others
-- there is each once. The providers of a customer are together, of whichever locators they are. JSON says when it was
-- made.
abbrev pub IsTextIn : Form → List PayloadParts → (made : DateTime) → List ℕ → Type 0
IsTextIn Csv all made text = text ≡ csv_text all
IsTextIn Json all made text =
    (pairs : List CustomerProvider) × AreUnitedPairs all pairs × (text ≡ json_text all (vaps pairs) made)
IsTextIn StayRtr all made text =
    (pairs : List CustomerProvider) × AreUnitedPairs all pairs × (text ≡ stay_text all (vaps pairs) made)
IsTextIn OpenBgpd all made text =
    (timed : List TimedVrp) × (pairs : List CustomerProvider) × AreUnitedTimed all timed × AreUnitedPairs all pairs
    × (text ≡ openbgpd_text timed (vaps pairs))
IsTextIn OpenBgpdOrigins all made text =
    (timed : List TimedVrp) × AreUnitedTimed all timed × (text ≡ openbgpd_text timed [])
IsTextIn Bird all made text = (vrps : List Vrp) × AreUnited all vrps × (text ≡ bird_text vrps)
IsTextIn RpkiClient all made text = text ≡ client_text all
