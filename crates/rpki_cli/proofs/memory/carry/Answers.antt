use Rattle.std.proofs.Common.{rules, string_bytes}
use Rattle.std.proofs.lemmas.Map.Text.{btree_map_updates_text}
use Rattle.rpki_cli.proofs.Files.{is_carried}
use Rattle.rpki_cli.proofs.memory.carry.Goals as goal

pub returns-clause-yes : goal.returns-clause-yes
returns-clause-yes c = λ yes.
    is_carried c.args.files.now c.insert.new.self c.remove.new.self c.args.from.now c.args.to.now
    (string_bytes c.in-Ok-from_str.key) c.in-Ok.octets c.in-Some.octets.now (search rules)
    (btree_map_updates_text (string_bytes c.in-Ok-from_str.key) c.args.files.now c.insert.new.self _ (search
    (rules, c.insert.ensures.updates)))
    (search rules) (search rules)
    (btree_map_updates_text c.args.from.now c.insert.new.self c.remove.new.self _ c.remove.ensures.updates)
    (search rules)
