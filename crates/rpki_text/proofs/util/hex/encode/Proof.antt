-- `encode` meets its contract: a walk of its MIR by hand. After `written`, the buffer is shared for all the time that
-- it was borrowed, so what it holds then is what its owner has back.
-- A walk is a list of steps over a context, the things that are owned, which comments show as [first; second; ..].
use Rattle.std.specs.Prelude.{⊤}
use Rattle.std.proofs.Common.{◌≡◌, ℕ, ◌*◌, ◌≤◌, List, [], ◌∷◌, ◌++◌, length, take, drop, refl, ap, w8, Bor, MutBor}
use Rattle.std.proofs.raw_atomic.Walks.{proved}
use Rattle.rpki_text.specs.HexText.{hex_text, EndsAs}
use Rattle.rpki_text.specs.contracts.util.hex.encode as f
use Rattle.rpki_text.specs.contracts.util.hex.front_text as t
use Rattle.rpki_text.specs.contracts.util.hex.written as w
use Rattle.rpki_text.proofs.HexLaws.{hex-front}
use Rattle.rpki_text.proofs.util.hex.encode.Code as code
use Rattle.rpki_text.proofs.util.hex.encode.Statement.{statement}
use Rattle.rpki_text.proofs.util.hex.front_text.Met as front_text
use Rattle.rpki_text.proofs.util.hex.written.Met as written
use mathlib.Core.Option.{none}
use seplogic.Ra.Ura.{Ura}
use base.Fml.{GName, ftrue, flft, fres}
use base.Fraction.{full_share}
use base.Logic.{ent, id⊢}
use base.Stored.{Gv, coded_list}
use mir.Syntax.{named, erased}
use mir.Val.{Val}
use contract.Monad.{fact, fact_i}
use contract.Running.{tables}
use types.ByLocal.{alloc_all, pass_all, free_all, look_at, look_in_at, get, get_in, sets, lands_as}
use types.Kit.{‵, raw, ◌⊛◌, some, later, ◌$◌, ◌∵◌, !, qed, done, move, drop as discard, use0, use1, use2, split, join}
use types.Kit.{fsplit, fjoin, feq_i, fpack, pick, await, rewrite, suffices, frame, group}
use types.Logic.{Logic, sem}
use types.Part.{whole, sub, agg}
use types.Run.{enter, addr, from, stop, fld, hop, no_more, and_then, returns}
use denote.Builtin.{u8}
use denote.Copied.{uint_Copied}
use denote.Exit.{yes, no}
use denote.Follow.{such_by, follows_by}
use denote.FollowSlice.{finally-res}
use denote.Laws.{shows}
use denote.Plain.{uint_row_laws}
use denote.Signature.{Slot, shr_slice_of, mut_slice_of, plain}
use denote.Slice.{finally, MutSlice, ShrSlice, shr_slice_vals, mut_slice_vals, shr_slice_Tells, mut_slice_Tells}
use denote.Slice.{shr_slice_copy}
use denote.Steps.{nothing, heard, peeks, only}
use denote.Text.{Str, str-laws}
use denote.Triple.Call.{calls_at}
use denote.Triple.Clauses.{lasts}
use denote.Triple.Spec.{triple_of}
use denote.Triple.Table.{framed}
use denote.Triple.Walked.{Stays, says, stay_dropped, Goes-dropped, walk_of, ends_at}
use borrow.Rule.Slice.Handed.{sl_Share}
use borrow.Table.Owned as shown

-- the two parameters
abbrev octets_in : Slot 2
octets_in = shr_slice_of (0 ∷ []) tt (plain (λ _. u8))

abbrev octets_out : Slot 2
octets_out = mut_slice_of (1 ∷ []) tt (plain (λ _. u8))

abbrev stayed : Stays f.ended.signature.params f.ended.kept
stayed = (stay_dropped octets_in yes, (stay_dropped octets_out no, tt))

-- what a name is known to end as, in the words of the contract
ends-as : {M : Type 1} {𝓤 : Ura M} (𝓛 : Logic 𝓤) (buffer : MutBor (List ℕ)) (octets : List ℕ) (γ : GName) (now : List ℕ)
    → (γ ≡ buffer.ghost_name) × (now ≡ octets)
    → ent 𝓤 (sem 𝓛 (finally u8 γ now)) (sem 𝓛 (EndsAs buffer octets))
unfolding such_by follows_by
ends-as 𝓛 buffer octets γ now said =
    qed 𝓛 (‵ (finally u8 γ now) ∷ []) ∵ use1 𝓛 (‵ (fres γ ((coded_list u8.coded).code now))) (finally-res 𝓛 u8 γ now) $
    rewrite ! 0 (λ (n : GName). ‵ (fres n ((coded_list u8.coded).code now))) said.0 refl $ rewrite ! 0
    (λ (xs : List ℕ). ‵ (fres buffer.ghost_name ((coded_list u8.coded).code xs))) said.1 refl $
    let code : List ℕ → Gv = (coded_list u8.coded).code in
    fpack ! ((s : (List ℕ → List ℕ) × List ℕ) × (List ℕ → ⊤) × (s.1 ≡ octets))
    (λ s. follows_by (List ℕ) (List ℕ) code code buffer.ghost_name none s.0.0 s.0.1)
    (((λ xs. xs), octets), (λ xs. tt), refl) $ done !

pub encode_spec : {M : Type 1} → statement M
encode_spec 𝓤 𝓛 𝓜 𝓡 wired =
    let c = f.clauses 𝓛 𝓜.mem 𝓡.returns in let W = walk_of 𝓛 f.ended stayed c in
    proved 𝓛 f.ended stayed c 𝓜 𝓡 (
      Goes-dropped 𝓛 2 octets_in yes (λ κs x w. refl),
      (Goes-dropped 𝓛 2 octets_out no (λ κs x w. refl), tt),
    )
    f.Key.name code.function (code.unfolded 𝓤 𝓛.H 𝓜 𝓡 wired)
    (λ κs. (shr_slice_vals, (mut_slice_vals, tt)))
    (λ κs. (shr_slice_Tells (named 0) κs.0 u8, (mut_slice_Tells (named 1) κs.1.0 u8, tt))) (λ κs qs bounds a g are.
    let src : Bor (List ℕ) = a.0 in let dest : MutBor (List ℕ) = a.1.0 in
    let y : W.Ghost = ((κs, qs, bounds, a, (shr_slice_vals src, (mut_slice_vals dest, tt))), tt) in
    let Src = ‵ ((ShrSlice (named 0) κs.0 u8).own_val src (shr_slice_vals src)) in
    let Alive = ‵ (flft κs.0 qs.0) ⊛ ‵ (flft κs.1.0 qs.1.0) ⊛ ‵ ftrue in
    qed 𝓛 ((Alive ⊛ Src ⊛ ‵ ((MutSlice (named 1) κs.1.0 u8).own_val dest (mut_slice_vals dest)) ⊛ ‵ ftrue) ∷ raw
    (fact 𝓤 (2 * length src.now ≤ length dest.now)) ∷ []) ∵
    split ! $ move ! (1 ∷ []) $ split ! $ use1 𝓛 (Src ⊛ Src)
    ((shr_slice_copy 𝓛 (named 0) κs.0 u8 (uint_row_laws w8)).twice src (shr_slice_vals src)) $ split ! $
    move ! (0 ∷ 2 ∷ []) $ join ! $ move ! (2 ∷ 0 ∷ []) $ join ! $ move ! (0 ∷ 2 ∷ []) $ join ! $
    let G = triple_of 𝓛 w.signature (w.spec 𝓛 𝓜.mem 𝓡.returns) in
    let z : G.Ghost = ((κs, qs, bounds, a, (shr_slice_vals src, (mut_slice_vals dest, tt))), tt) in
    use1 𝓛 (raw (G.pre z)) (id⊢ 𝓤 _) $
    -- [what `written` asks; src once more]
    enter ! _ _ _ _ _ $ alloc_all ! (λ l. pass_all ! refl
    ((tt, (tt, (record { fits = are.0.0.1.0 }, tt))), ((tt, (tt, (record { fits = are.1.0.0.1.0 }, tt))), tt)) $
    sets ! (addr ! (from ! (fld ! refl (hop ! (look_in_at ! 2 (sub ! 0 refl (whole !))) (stop !))))) refl (tt, tt) $
    sets ! (agg ! (and_then ! (get ! refl)
    (and_then ! (get_in ! (fld ! refl (stop !)) (sub ! 1 refl (whole !))) (no_more !)))) refl
    (tt, (tt, (record { fits = are.1.0.0.1.0 }, tt))) $
    calls_at ! (framed 𝓤 𝓛.H 𝓜 (tables 𝓤 𝓛.H 𝓜 𝓡 𝓡.env)) G
    (written.met 𝓤 𝓛 𝓜 𝓡 (code.calls-rpki_text::util::hex::written 𝓡.env wired)) z
    (and_then ! (get ! refl) (and_then ! (get ! refl) (no_more !))) (λ v.
    use1 𝓛 (later (some (λ (r : MutBor (List ℕ)). (Alive ⊛ ‵ ((MutSlice (named 1) κs.1.0 u8).own_val r (v ∷ []))) ⊛
    some (λ (ws : Unit {0} × (Unit {0} × Unit {0})). ‵ (lasts w.ended κs a ws) ⊛ raw
    (fact 𝓤 ((r.ghost_name ≡ dest.ghost_name) ×
    (r.now ≡ hex_text src.now ++ drop (2 * length src.now) dest.now))))))) (id⊢ 𝓤 _) $
    await ! tt $ pick ! (λ r. split ! $ split ! $ move ! (2 ∷ []) $ pick !
    (λ ws. split ! $ discard ! $ heard ! _ (λ said. move ! (1 ∷ []) $
    peeks ! (MutSlice (named 1) κs.1.0 u8) _ (shows 𝓛 (MutSlice (named 1) κs.1.0 u8)) r (v ∷ []) (λ is.
    lands_as ! (ap only is.0.0) refl (tt, (tt, (record { fits = is.0.1.0 }, tt))) $
    sets ! (addr ! (from ! (fld ! refl (hop ! (look_in_at ! 3 (sub ! 0 refl (whole !))) (stop !))))) refl (tt, tt) $
    sets ! (agg ! (and_then ! (get ! refl)
    (and_then ! (get_in ! (fld ! refl (stop !)) (sub ! 1 refl (whole !))) (no_more !)))) refl
    (tt, (tt, (record { fits = is.0.1.0 }, tt))) $
    -- [what `written` gave back; the tokens; src]
    fsplit ! $ fsplit ! $ discard ! $ fjoin ! $ move ! (1 ∷ []) $ split ! $ move ! (1 ∷ []) $ split ! $ move !
    (3 ∷ 0 ∷ []) $
    let octets : Bor (List ℕ) = record { ref_ptr = r.ref_ptr; now = r.now } in
    use2 𝓛 (later (‵ ((shown.ShrSlice erased κs.1.0 u8).own_val octets) ⊛ ‵ (finally u8 r.ghost_name r.now) ⊛ ‵
    (flft κs.1.0 qs.1.0)))
    (sl_Share 𝓛 u8 r.ref_ptr.0 r.ref_ptr.1 r.ghost_name r.now (uint_row_laws w8) κs.1.0 qs.1.0
    ((uint_Copied 𝓛 w8).shares full_share κs.1.0)) $ await ! tt $ split ! $
    -- [the octets, shared; what becomes of dest and the token of its lifetime; nothing; the token of src's lifetime;
    -- src]
    fsplit ! $ feq_i ! (List Val) (shr_slice_vals octets) (shr_slice_vals octets) refl $ fjoin ! $ fjoin ! $ nothing ! $
    move ! (1 ∷ 0 ∷ []) $ join ! $ move ! (4 ∷ 0 ∷ []) $ join ! $
    move ! (1 ∷ []) $ split ! $ move ! (1 ∷ 3 ∷ []) $ join ! $ move ! (3 ∷ 0 ∷ []) $ join ! $ move ! (0 ∷ 2 ∷ []) $ join
    ! $
    let there = hex-front src.now r.now (drop (2 * length src.now) dest.now) said.1 in
    use0 𝓛 (raw (fact 𝓤 ((2 * length src.now ≤ length r.now) × (take (2 * length src.now) r.now ≡ hex_text src.now))))
    (fact_i 𝓤 _ _ there) $ move ! (1 ∷ 0 ∷ []) $ join ! $
    let G' = triple_of 𝓛 t.signature (t.spec 𝓛 𝓜.mem 𝓡.returns) in
    let z' : G'.Ghost =
    ((κs, qs, bounds, (src, (octets, tt)), (shr_slice_vals src, (shr_slice_vals octets, tt))), tt) in
    use1 𝓛 (raw (G'.pre z')) (id⊢ 𝓤 _) $
    -- [what `front_text` asks; what becomes of dest]
    calls_at ! (framed 𝓤 𝓛.H 𝓜 (tables 𝓤 𝓛.H 𝓜 𝓡 𝓡.env)) G'
    (front_text.met 𝓤 𝓛 𝓜 𝓡 (code.calls-rpki_text::util::hex::front_text 𝓡.env wired)) z'
    (and_then ! (get ! refl) (and_then ! (get ! refl) (no_more !))) (λ v'.
    use1 𝓛 (later (some (λ (text : Bor (List ℕ)). (Alive ⊛ ‵ ((Str (named 1) κs.1.0).own_val text (v' ∷ []))) ⊛
    some (λ (ws' : Unit {0} × (Unit {0} × Unit {0})). ‵ (lasts t.ended κs z'.0.3 ws') ⊛ raw
    (fact 𝓤 (text.now ≡ hex_text src.now)))))) (id⊢ 𝓤 _) $
    await ! tt $ pick ! (λ text. split ! $ split ! $ move ! (2 ∷ []) $ pick !
    (λ ws'. split ! $ discard ! $ heard ! _ (λ reads. move ! (1 ∷ []) $
    peeks ! (Str (named 1) κs.1.0) _ (shows 𝓛 (Str (named 1) κs.1.0)) text (v' ∷ []) (λ is'.
    lands_as ! refl refl (((str-laws (record { mir = named 1; lft = κs.1.0 })).lawful 𝓛).typed text (v' ∷ []) is').0 $
    returns ! (look_at ! 0 refl) $ free_all ! refl $
    -- [the text; the tokens; what becomes of dest]
    move ! (2 ∷ []) $ use1 𝓛 (‵ (EndsAs dest (hex_text src.now ++ drop (2 * length src.now) dest.now)))
    (ends-as 𝓛 dest _ r.ghost_name r.now said) $
    suffices ! _ (ends_at 𝓛 f.ended stayed c y v' text (tt, (tt, tt)) (tt, (tt, tt))) $
    move ! (1 ∷ 0 ∷ []) $ nothing ! $ nothing ! $ join ! $ nothing ! $ join ! $ move ! (3 ∷ []) $ group ! 3 $ frame ! $
    says ! reads $ done !))))))))))))
