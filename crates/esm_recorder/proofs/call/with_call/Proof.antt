-- `with_call` hands back the snapshot, which has no bytes, with the list that its clause names.
use Rattle.std.proofs.Common.{◌≡◌, List, [], ◌∷◌, ◌++◌, refl, ap, ◌∙◌}
use Rattle.std.proofs.raw_atomic.Walks.{proved}
use Rattle.std.specs.contracts.alloc.Global as Global
use Rattle.std.specs.contracts.collections.LinkedList as Linked
use Rattle.std.specs.contracts.impls.GlobalAllocator.TheImpl as Allocator
use Rattle.std.specs.contracts.snapshot.Snapshot as Snapshot
use mir.Val.{Val, vptr, vstruct, vcons, vnil, of_list}
use base.Fml.{Fml}
use types.Kit.{‵, raw, ◌⊛◌, ◌$◌, ◌∵◌, !, qed, move, keep, use0, split, fjoin, suffices, done}
use types.Run.{of_opd, returns, enter}
use types.ByLocal.{alloc_all, pass_all, free_all, look_at, get, sets}
use denote.RattleType.{RattleType, owns}
use denote.Laws.{Is}
use denote.Exit.{yes}
use denote.Builtin.{RefOf}
use denote.Ref.{shr_vals}
use denote.Shadow.{makes_shadow}
use denote.Signature.{plain, types_at, type_at, named_lft}
use denote.Steps.{nothing}
use denote.Triple.Entry.{alive, Res}
use denote.Triple.Walked.{says, Stays, stay_dropped, walk_of, ends_at, Goes-dropped}
use Rattle.esm_model.specs.contracts.called.Called as Called
use Rattle.esm_recorder.specs.contracts.call.Call as Call
use Rattle.esm_recorder.specs.contracts.call.with_call as f
use Rattle.esm_recorder.proofs.call.with_call.Statement.{statement}
use Rattle.esm_recorder.proofs.call.with_call.Code as code

abbrev Past : RattleType
Past = Snapshot.the_row (Linked.the_row Called.the_row Global.the_row Allocator.ghosts)

abbrev bytes : Val
bytes = vstruct (vcons (vstruct vnil) vnil)

told : (x : Past.Denot) (vs : List Val) → Is Past x vs → vs ≡ bytes ∷ []
told x vs is = is.0.1.0 ∙ ap (λ (ws : List Val). vstruct (of_list (ws ++ [])) ∷ []) is.0.1.1.0.1.0

abbrev stayed : Stays f.ended.signature.params f.ended.kept
stayed = (stay_dropped _ yes, (stay_dropped _ yes, tt))

pub with_call_spec : {M : Type 1} → statement M
with_call_spec 𝓤 𝓛 𝓜 𝓡 wired =
    let c = f.clauses 𝓛 𝓜.mem 𝓡.returns in let W = walk_of 𝓛 f.ended stayed c in
    proved 𝓛 f.ended stayed c 𝓜 𝓡
    (Goes-dropped 𝓛 2 (plain (λ _. Past)) yes (λ κs x w. refl), (Goes-dropped 𝓛 2 (RefOf (0 ∷ []) tt (plain (λ κs. Call.the_row (named_lft 2 1 tt κs))) (λ _. tt)) yes (λ κs x w. refl), tt))
    f.Key.name code.function (code.unfolded 𝓤 𝓛.H 𝓜 𝓡 wired)
    (λ κs. ((λ _. bytes ∷ []), (shr_vals, tt))) (λ κs. (told, ((λ r vs is. is.0), tt))) (λ κs qs bounds a g are.
    let at = a.1.0.ref_ptr in
    let y : W.Ghost = ((κs, qs, bounds, a, (bytes ∷ [], (vptr at.0 at.1 ∷ [], tt))), g) in
    let made : Res f.signature κs = record {
      marker = record {};
      value = a.0.value ++ record { name = a.1.0.now.name.now; event = a.1.0.now.event.now; reply = a.1.0.now.reply.now } ∷ [];
    } in
    let O : Fml = (type_at f.signature.result κs).own_val made (bytes ∷ []) in
    qed 𝓛 ((raw (alive 𝓛 f.signature κs qs) ⊛ ‵ (owns (types_at f.signature.params κs) a y.0.4)) ∷ raw ((c κs a).requires g) ∷ []) ∵
    split ! $ keep ! (0 ∷ []) $
    enter ! _ _ _ _ _ $ alloc_all ! (λ l. pass_all ! refl ((tt, (tt, tt)), ((tt, tt), tt)) $
    sets ! (of_opd ! (get ! refl)) refl (tt, (tt, tt)) $
    returns ! (look_at ! 0 refl) $ free_all ! refl $
    use0 𝓛 (‵ O) (makes_shadow 𝓛 O ((λ vss. (tt, ((λ uss. (tt, tt)), tt))), tt) (((vstruct vnil ∷ [], tt), (refl, ((tt, (refl, tt)), tt))), tt)) $
    suffices ! _ (ends_at 𝓛 f.ended stayed c y bytes made (tt, (tt, tt)) (tt, (tt, tt))) $ says ! refl $
    nothing ! $ nothing ! $ fjoin ! $ nothing ! $ fjoin ! $ move ! (2 ∷ 0 ∷ 1 ∷ []) $ done !))
