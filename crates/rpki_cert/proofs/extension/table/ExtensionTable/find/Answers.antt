use Rattle.std.proofs.Common.{◌≡◌, ◌∙◌, ℕ, false, Some, None, ap, sym, get_or}
use Rattle.rpki_cert.specs.ExtensionTable.{kept_as, identifier_of, slot_of}
use Rattle.rpki_cert.proofs.extension.table.ExtensionTable.find.Goals as goal

pub returns-in-Some : goal.returns-in-Some
returns-in-Some c = λ xs h.
    let id = identifier_of c.args.kind in
    let t = c.self.inside in
    let at : get_or t.contents (slot_of c.args.kind) None ≡ Some c.in-Some.octets =
    ap (λ (n : ℕ). get_or t.contents n None) (sym c.slot-slot.ensures.slot) ∙ c.in-Some.is in
    let made = rw (c.id.ensures, c.slot-slot.ensures.slot) at c.of_parts.ensures in
    ap Some made ∙ ap (kept_as id (get_or t.critical (slot_of c.args.kind) false)) (sym at)
    ∙ c.self.invariant.found c.args.kind xs (rw (← c.self.view_is) at h)
