use Rattle.std.proofs.Common.{◌≡◌, ◌∙◌, ◌+◌, ◌<◌, ◌++◌, [], ◌∷◌, List, ℕ, length, get_or, take, ap}
use Rattle.std.proofs.lemmas.List.{append-nil, take_more}
use Rattle.std.proofs.lemmas.Grind.{flat_map-append}
use Rattle.std.specs.List.{flat_map}
use Rattle.rpkicert.specs.declared.fault.Fault.TheVariants.{Violated}
use Rattle.rpkicert.specs.declared.violation.Violation.{Violation}
use Rattle.rpkicert.specs.Fault.{fault_text}
use Rattle.rpkicert.specs.Output.{line, rule_line}
use Rattle.rpkicert.proofs.violation_lines.rule_lines.Goals as goal

-- one more line
more-lines : (name : List ℕ) (all : List Violation) (i : ℕ) (d : Violation) (text said new : List ℕ) → i < length all
    → text ≡ flat_map (rule_line name) (take i all) → said ≡ fault_text (Violated (get_or all i d))
    → new ≡ text ++ line name said → new ≡ flat_map (rule_line name) (take (i + 1) all)
more-lines name all i d text said new lt h k e =
    let more : flat_map (rule_line name) (take (i + 1) all)
    ≡ flat_map (rule_line name) (take i all) ++ (rule_line name (get_or all i d) ++ []) =
    ap (flat_map (rule_line name)) (take_more all i d lt)
    ∙ flat_map-append (rule_line name) (take i all) (get_or all i d ∷ []) in
    let one : new ≡ flat_map (rule_line name) (take i all) ++ rule_line name (get_or all i d) = rw (h, k) at e in
    rw (more, append-nil (rule_line name (get_or all i d))) one

pub rules-preserved : goal.rules-preserved
rules-preserved c =
    more-lines c.args.name.now c.args.all.now c.rules.violation-index _ c.rules.text.items _ _ c.rules-test.true
    c.rules.invariant (c.as_bytes.ensures.value ∙ c.in_ok-said.ensures) c.in_ok-push_line.ensures
