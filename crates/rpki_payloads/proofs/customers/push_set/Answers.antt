use Rattle.std.proofs.Common.{◌≡◌, ◌++◌, ℕ, List, append_assoc, codes}
use Rattle.std.specs.List.{flat_map}
use Rattle.rpki_payloads.specs.Lines.{openbgpd_vap}
use Rattle.rpki_payloads.proofs.customers.push_set.Goals as goal

three : (a b c d w x y : List ℕ) → x ≡ w ++ a → y ≡ x ++ b → d ≡ y ++ c → d ≡ w ++ (a ++ (b ++ c))
three a b c d w x y e f g = rw (g, f, e) (simp append_assoc)

pub returns : goal.returns
returns c =
    three (codes "aspa-set {\n") (flat_map openbgpd_vap c.args.vaps.now) (codes "}\n")
    c.extend_from_slice-2.new.self.items c.args.text.now.items c.extend_from_slice.new.self.items
    c.push_vaps.new.text.items c.in_ok-extend_from_slice.ensures.items c.in_ok-push_vaps.ensures
    c.in_ok-extend_from_slice-2.ensures.items
