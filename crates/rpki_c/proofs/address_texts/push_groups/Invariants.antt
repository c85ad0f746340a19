use Rattle.std.proofs.Common.{◌≡◌, ◌+◌, ◌*◌, ◌≤◌, ◌++◌, length}
use Rattle.std.specs.Net.Text.{groups_text}
use Rattle.rpki_c.proofs.address_texts.push_groups.Given as goal

-- what is written and what is still to come are all
abbrev pub invariant-groups : goal.invariant-groups
invariant-groups l = record {
  text : l.text ++ groups_text l.rest ≡ l.fn.text ++ groups_text l.segments;
  short : length l.text + 5 * length l.rest ≤ length l.fn.text + 5 * length l.segments;
}

abbrev pub decreases-groups : goal.decreases-groups
decreases-groups l = length l.rest
