-- What is signed of a revocation list is one value, with everything nested in it.
use Rattle.std.proofs.Common.{ℕ, List, None, Some, sym, subst}
use Rattle.rpki_der.specs.TagName.{integer, sequence}
use Rattle.rpki_der.specs.Integer.{IsNumber}
use Rattle.rpki_der.specs.Members.{IsValue, IsValueList}
use Rattle.rpki_der.specs.Parts.{OptionalThen}
use Rattle.rpki_der.specs.Format.{only}
use Rattle.rpki_der.specs.LeafFormats.{this_number}
use Rattle.rpki_der.specs.ValueListLaws.{value_lists_append}
use Rattle.rpki_der.proofs.LeafValueLaws.{composed-value-alone}
use Rattle.rpki_time.specs.Serial.{IsSerialContents, serial_number}
use Rattle.rpki_time.specs.TimeValue.{time}
use Rattle.rpki.specs.Name.{SpellsNameOctets}
use Rattle.rpki.specs.ExtensionValue.{SpellsExtension}
use Rattle.rpki.proofs.ExtensionLaws.{extension-value}
use Rattle.rpki.proofs.NameLaws.{each-values}
use Rattle.rpki_x509.proofs.ValuesLaws.{SpellValues, leaf-values, inside-values, both-values, algorithm-values}
use Rattle.rpki_x509.proofs.ValuesLaws.{name-values, time-values}
use Rattle.rpki_crl.specs.Crl.{Entry, entry, entry_parts, each_entry, entries, extensions_tag}
use Rattle.rpki_crl.specs.Crl.{each_extension, known_extensions, extensions, ListParts, fields_of}
use Rattle.rpki_crl.specs.Crl.{signature, fields, tbs_cert_list}

entry-values : SpellValues entry_parts.spells
entry-values = both-values serial_number.spells time.spells (leaf-values integer IsSerialContents) time-values

entry-value : (x : Entry) (p : List ℕ) → entry.spells x p → IsValue p
entry-value x p h = composed-value-alone sequence entry_parts.spells x p (entry-values x) h

entries-values : SpellValues entries.spells
entries-values = inside-values sequence each_entry.spells (λ xs c h. each-values entry.spells entry-value xs c h)

extensions-values : SpellValues extensions.spells
extensions-values = inside-values extensions_tag known_extensions.spells (λ v c h.
    inside-values sequence each_extension.spells
    (λ xs d each. each-values SpellsExtension extension-value xs d each)
    h.value c h.spelled)

listed-values : SpellValues (OptionalThen entries.spells (only extensions).spells)
listed-values (None, v) p h = extensions-values v p h
listed-values (Some xs, v) p h =
    subst IsValueList (sym h.parts)
    (value_lists_append h.first h.second (entries-values xs h.first h.one) (extensions-values v h.second h.two))

fields-values : SpellValues fields.spells
fields-values =
    both-values (this_number 1).spells _ (leaf-values integer (IsNumber 1))
    (both-values signature.spells _ algorithm-values
    (both-values SpellsNameOctets _ name-values
    (both-values time.spells _ time-values
    (both-values time.spells _ time-values listed-values))))

pub list-value : (t : ListParts) (d : List ℕ) → tbs_cert_list.spells (fields_of t) d → IsValue d
list-value t d h = composed-value-alone sequence fields.spells (fields_of t) d (fields-values (fields_of t)) h
