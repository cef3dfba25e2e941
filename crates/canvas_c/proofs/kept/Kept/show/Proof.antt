-- `show` gives the pointer its type again.
use Rattle.std.proofs.Common.{◌≡◌, T, List, [], ◌∷◌, ◌++◌, refl, sym, subst}
use mir.Syntax.{Fn}
use mir.Val.{Val}
use base.Logic.{SProp, ent, emp, id⊢}
use prog.Wp.{WpFn}
use types.Kit.{‵, raw, ◌⊛◌, ◌$◌, ◌∵◌, !, qed, by, move, keep, drop, split, fsplit, fjoin, suffices, use0, rewrite}
use types.Run.{stop, fld, of_opd, no_more, and_then, returns, enter}
use types.ByLocal.{alloc_all, pass_all, free_all, look_at, get, get_in, sets}
use types.Part.{agg, sub, whole}
use contract.Monad.{fact, fact_i}
use contract.Running.{tables}
use denote.RattleType.{owns}
use denote.Signature.{types_at, plain}
use denote.Steps.{nothing, heard}
use denote.Triple.Entry.{alive}
use denote.Triple.Walked.{Stays, stay_dropped, walk_of}
use Rattle.std.specs.Prelude.{Option, Some, None, IsSome}
use Rattle.core.proofs.alloc.Calls.{Goes-blank}
use Rattle.std.proofs.raw_atomic.Walks.{proved_at, leaves}
use Rattle.canvas_c.specs.Owned.{kept_owns}
use Rattle.canvas_c.specs.declared.session.Session.{Session}
use Rattle.canvas_c.proofs.Places.{place, place_owns, place_is, place_made, place_fits, ptr_fits}
use Rattle.canvas_c.specs.contracts.kept.Kept as kept
use Rattle.canvas_c.specs.contracts.kept.Kept.show.{ended, clauses}
use Rattle.canvas_c.specs.contracts.kept.Kept.show.Key.{name as #self}
use Rattle.canvas_c.proofs.kept.Kept.show.Statement.{statement}
use Rattle.canvas_c.proofs.kept.Kept.show.Code as code

held : (m : Option Session) → IsSome m → (s : Session) × (m ≡ Some s)
held (Some s) is = (s, refl)
held None is = absurd (subst T (sym is) tt)

pub show_spec : {M : Type 1} → statement M
show_spec 𝓤 𝓛 𝓜 𝓡 wired =
    let H = 𝓛.H in let 𝓣 = tables 𝓤 H 𝓜 𝓡 𝓡.env in let En = ended in let c = clauses 𝓛 𝓜.mem 𝓡.returns in let fn : Fn = code.function in
    let hs : Stays En.signature.params En.kept = (stay_dropped (plain (λ _. kept.the_row)) En.kept.0, tt) in
    proved_at 𝓛 En hs c 𝓜 𝓡 (Goes-blank 𝓛 0 (plain (λ _. kept.the_row)) En.kept.0 (λ κs x f. tt), tt) #self fn (code.unfolded 𝓤 H 𝓜 𝓡 wired) (λ z are.
    let v = z.0.3.0 in let Post : Val → SProp 𝓤 = (walk_of 𝓛 En hs c).post z in let Run : List Val → SProp 𝓤 = λ ws. WpFn 𝓤 H 𝓣.C 𝓣.Λ fn ws Post in
    let is : z.0.4.0 ≡ place v.at ∷ [] = place_is v.at z.0.4.0 are.0.0 in
    qed 𝓛 ((raw (alive 𝓛 En.signature z.0.0 z.0.1) ⊛ ‵ (owns (types_at En.signature.params z.0.0) z.0.3 z.0.4)) ∷ raw (fact 𝓤 (IsSome v.session)) ∷ []) ∵
    move ! (1 ∷ []) $ heard ! (IsSome v.session) (λ some. let got = held v.session some in let s : Session = got.0 in let Told : Type 0 = Some s ≡ v.session in
    split ! $ move ! (1 ∷ []) $ fsplit ! $ fsplit ! $ drop ! $ rewrite ! 0 (λ (m : Option Session). ‵ (kept_owns v.at m)) got.1 refl $ keep ! (0 ∷ 2 ∷ []) $
    suffices ! (Run (place v.at ∷ [])) (subst (λ (ws : List Val). ent 𝓤 (Run (place v.at ∷ [])) (Run ws)) (sym (λ i. is i ++ [])) (id⊢ 𝓤 (Run (place v.at ∷ [])))) $
    enter ! 𝓣.C 𝓣.Λ fn (place v.at ∷ []) Post $ alloc_all ! (λ l. pass_all ! refl (place_fits 𝓛 v.at, tt) $
    sets ! (of_opd ! (get_in ! (fld ! refl (stop !)) (sub ! 0 refl (whole !)))) refl (ptr_fits 𝓛 v.at) $ sets ! (of_opd ! (get ! refl)) refl (ptr_fits 𝓛 v.at) $
    sets ! (agg ! (and_then ! (get ! refl) (no_more !))) refl (place_fits 𝓛 v.at) $ returns ! (look_at ! 0 refl) $ free_all ! refl $
    use0 𝓛 (‵ (place_owns v.at (place v.at ∷ []))) (place_made 𝓛 v.at) $ fjoin ! $
    use0 𝓛 (raw (fact 𝓤 Told)) (fact_i 𝓤 Told (emp 𝓤) (sym got.1)) $ nothing ! $ nothing ! $ fjoin ! $ move ! (3 ∷ 0 ∷ 2 ∷ 1 ∷ []) $
    by ! (leaves 𝓛 En hs c z (place v.at) (record { at = v.at; value = s }) (tt, tt) (tt, tt)))))
