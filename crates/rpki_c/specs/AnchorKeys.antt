-- What a status says of the octets of trust anchor keys (RFC 9691 3.2).
use Rattle.std.specs.Prelude.{◌≡◌, ℕ, List, [], Option, Some, None, Ok, Err, if◌then◌else◌}
use Rattle.rpki_records.specs.declared.tak.TakPart.{TakPart}
use Rattle.rpki_records.specs.declared.tak.TakPart.TheVariants as P
use Rattle.rpki_records.specs.AnchorKeys.{FoundKey, FoundTak, tak}
use Rattle.rpki_c.specs.declared.anchor_keys.AnchorKeyParts.{AnchorKeyParts}
use Rattle.rpki_c.specs.declared.anchor_keys.TakParts.{TakParts as Parts}
use Rattle.rpki_c.specs.Whole.{IsRead}

-- the status of octets of which this part is wrong
abbrev pub tak_part_number : TakPart → ℕ
tak_part_number P.Tak = 192
tak_part_number P.Version = 193
tak_part_number P.Current = 194
tak_part_number P.Predecessor = 195
tak_part_number P.Successor = 196

-- what a key hands out
abbrev pub passed_key : AnchorKeyParts → FoundKey
passed_key p = record {
  comments = p.comments.octets.now;
  comment_count = p.comment_count;
  uris = p.uris.octets.now;
  uri_count = p.uri_count;
  key = p.key.octets.now;
}

-- how a key is passed that isn't there
abbrev pub no_key : FoundKey
no_key = record { comments = []; comment_count = 0; uris = []; uri_count = 0; key = [] }

abbrev pub key_where : Option FoundKey → FoundKey
key_where (Some k) = k
key_where None = no_key

-- what the parts hand out; marks say which keys are there
abbrev pub passed : Parts → FoundTak
passed p = record {
  current = passed_key p.current;
  predecessor = if p.has_predecessor then Some (passed_key p.predecessor) else None;
  successor = if p.has_successor then Some (passed_key p.successor) else None;
}

-- Status 0: the octets are keys of these parts. Else the number of the malformed part, and nothing is written.
abbrev pub IsTakRead : List ℕ → ℕ → Parts → Parts → Type 0
IsTakRead s = IsRead (λ p. tak s ≡ Ok (passed p)) tak_part_number (λ q. (e : ℕ) × (tak s ≡ Err (q, e)))
