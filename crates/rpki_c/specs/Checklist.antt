-- What a status says of the octets of a signed checklist (RFC 9323 4), and of a file of one.
use Rattle.std.specs.Prelude.{◌≡◌, ℕ, List, [], Bool, Option, Some, None, Result, Ok, Err}
use Rattle.std.specs.Prelude.{if◌then◌else◌}
use Rattle.rpki_records.specs.declared.checklist.ChecklistPart.{ChecklistPart}
use Rattle.rpki_records.specs.declared.checklist.ChecklistPart.TheVariants as P
use Rattle.rpki_records.specs.Checklist.{FoundChecklist, checklist}
use Rattle.rpki_c.specs.declared.checklist.ChecklistFile.{ChecklistFile}
use Rattle.rpki_c.specs.declared.checklist.ChecklistParts.{ChecklistParts as Parts}
use Rattle.rpki_c.specs.Whole.{IsRead}

-- the status of octets of which this part is wrong
abbrev pub checklist_part_number : ChecklistPart → ℕ
checklist_part_number P.Checklist = 184
checklist_part_number P.Version = 185
checklist_part_number P.Resources = 186
checklist_part_number P.DigestAlgorithm = 187
checklist_part_number P.CheckList = 188

-- how octets that may not be there are passed: as no octets where they aren't
abbrev pub span_where : Option (List ℕ) → List ℕ
span_where (Some s) = s
span_where None = []

-- what octets stand for, where a mark says whether they are there
abbrev pub where_marked : Bool → List ℕ → Option (List ℕ)
where_marked there s = if there then Some s else None

-- what the parts hand out
abbrev pub passed : Parts → FoundChecklist
passed p = record {
  numbers = where_marked p.has_as_numbers p.as_numbers.octets.now;
  addresses = where_marked p.has_addresses p.addresses.octets.now;
  files = p.files.octets.now;
  count = p.count;
}

-- Status 0: the octets are a checklist of these parts. Else the number of the malformed part, and nothing is written.
abbrev pub IsChecklistRead : List ℕ → ℕ → Parts → Parts → Type 0
IsChecklistRead s =
    IsRead (λ p. checklist s ≡ Ok (passed p)) checklist_part_number
    (λ q. (e : ℕ) × (checklist s ≡ Err (q, e)))

-- a file that is handed out: its name, where it has one, and its digest
abbrev pub passed_file : ChecklistFile → Option (List ℕ) × List ℕ
passed_file p = (where_marked p.has_name p.name.octets.now, p.digest)

-- a file is taken off the octets: the status, the rest of them, and the file; else the number of the error, and nothing
-- is written
abbrev pub taken_file : {F : Type 0} → List ℕ → F → Result (F × List ℕ) ℕ → ℕ × List ℕ × F
taken_file s old (Ok t) = (0, t.1, t.0)
taken_file s old (Err e) = (e, s, old)
