use Rattle.std.proofs.Common.{◌∙◌, ℕ, List, Option, [], ◌∷◌, ap}
use Rattle.std.specs.Prelude.{◌||◌, not, bytes_eq}
use Rattle.std.specs.Option.{option_copied, option_or}
use Rattle.rpki_cert.specs.Access.{signed_object, rpki_notify, is_https}
use Rattle.rpki_cert.specs.AccessInformation.{access_parts, joined, parts_of}
use Rattle.rpki_cert.proofs.AccessLaws.{copied-or}
use Rattle.rpki_cert.proofs.InformationLaws.{same-parts, both-told, located}
use Rattle.rpki_cert.proofs.extension.access_information.AccessInformation.with.Goals as goal

pub returns : goal.returns
returns c =
    let id = c.args.method.0.now in
    let name = option_copied c.args.name in
    let https = rw c.choose.ensures at c.https_in-https.ensures in
    let first = rw c.is_method-notifies.ensures at https in
    let by_https = rw https at c.is_located.ensures ∙ located c.is_method-notifies.result name in
    same-parts _ (joined (parts_of c.args.self) (access_parts ((id, name) ∷ [])))
    (rw c.is_method-issues.ensures at c.rsync_or.ensures) (rw c.is_method-publishes.ensures at c.rsync_or-2.ensures)
    (rw c.is_method-lists.ensures at c.rsync_or-3.ensures) (rw c.is_method-signs.ensures at c.rsync_or-4.ensures)
    (ap option_copied c.or.ensures ∙ copied-or c.args.self.notifications c.https_in-https.result
    ∙ ap (λ (o : Option (List ℕ)). option_or (option_copied c.args.self.notifications) o) first)
    (both-told _ _ _ (bytes_eq id signed_object || bytes_eq id rpki_notify) c.are_both.ensures
    (rw (c.is_method-signs.ensures, c.is_method-notifies.ensures) at c.is_of_end_entity.ensures))
    (both-told _ _ _ (not (bytes_eq id rpki_notify) || is_https name) c.are_both-2.ensures
    (rw c.is_method-notifies.ensures at by_https))
