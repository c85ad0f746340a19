use Rattle.std.proofs.Common.{rules, string_bytes}
use Rattle.std.proofs.lemmas.Map.Text.{btree_map_updates_text}
use Rattle.rpki_cli.proofs.Files.{is_set}
use Rattle.rpki_cli.proofs.memory.set.Goals as goal

pub returns-clause-yes : goal.returns-clause-yes
returns-clause-yes c = λ yes.
    is_set c.args.files.now c.insert.new.self c.args.name.now (string_bytes c.in-Ok.key) c.args.octets (search rules)
    (btree_map_updates_text (string_bytes c.in-Ok.key) c.args.files.now c.insert.new.self _
    (search (rules, c.insert.ensures.updates)))
