-- Where the count says so it answers that memory is refused; else it answers as the allocator inside does. Assumes `Logic`.
use Rattle.std.proofs.Common.{◌≡◌, ℕ, ◌^◌, ◌<◌, Bool, true, false, List, [], ◌∷◌, Ok, Err, refl, w64}
use seplogic.Ra.Ura.{Ura}
use mir.Syntax.{Ty, Fn}
use mir.Val.{Val, vbool, vint, vptr}
use mir.MapTy.{inst_fn}
use base.Logic.{SProp, ent, sep, id⊢}
use base.Fml.{Lft, Share, ftrue, flft}
use prog.Memory.{Memory}
use prog.Routine.{Routine}
use prog.Wp.{WpFn, Tables}
use types.Logic.{Logic, sem}
use contract.BorrowLft.{◌⊑◌, ⊑_trans}
use contract.Monad.{Fun, fact}
use contract.Running.{tables, tables_of}
use sound.WpLaws.{fm_of, WpFn-mono}
use types.Part.{agg}
use types.Run.{stop, fld, addr, lit, no_more, and_then, first, branches, skips, exec, returns, returns_within, enter}
use denote.Exit.{yes}
use denote.RattleType.{owns}
use denote.Ref.{shr_vals}
use denote.Opens.{unhide}
use denote.Plain.{uint_vals, uint_Tells}
use denote.Signature.{plain, types_at}
use denote.Steps.{heard, nothing}
use denote.Triple.Clauses.{Ended, Clauses}
use denote.Triple.Spec.{triple_of}
use denote.Triple.Statement.{Triple}
use denote.Triple.Table.{entered, cited}
use denote.Triple.Walked.{Stays, stay_dropped, walk_of, ends_at, walked, Goes-dropped, walk_Meets}
use types.Kit.{‵, raw, ◌⊛◌, some, later, given, prop, at_ret, Sq, pick, learn, ◌$◌, ◌∵◌, !, qed, move, keep, use0, use1, use2, split, join, fsplit, fjoin, suffices, await, done}
use types.ByLocal.{alloc_all, pass_all, free_all, look_at, get, through, sets, lands_as, env}
use Rattle.std.proofs.VecSteps.Shapes.{after}
use denote.RawPtr.{block_ptr}
use denote.Builtin.{usize}
use denote.Triple.Call.{calls_at}
use Rattle.std.proofs.alloc.Calls.{Al, token, seen, got, Answer, answer_val, Answer-typed, Answer-Ok, Answer-err, takes_key, Takes, at_takes, Answered, Takes-goes, Takes-gives, answers}
use Rattle.refusing.proofs.Counting.{Counts, at_counts, Counts-goes, Counts-gives}
use Rattle.refusing.proofs.counts_to_refusal.Symbol as c_sym
use Rattle.refusing.proofs.counts_to_refusal.Met as c_met
use Rattle.refusing.proofs.Handing.{of_inside, lent, Lent, inside, count, IsOf, alive}
use Rattle.refusing.specs.contracts.RefusingAllocator.allocate as F
use Rattle.refusing.specs.contracts.RefusingAllocator.allocate.Key as key
use Rattle.refusing.proofs.RefusingAllocator.allocate.Statement as stated
use Rattle.refusing.proofs.RefusingAllocator.allocate.Code as code

module _ (Z : Al) where
  abbrev asked_fn : Fn
  asked_fn = inst_fn (of_inside Z) code.function

  abbrev at_end : Ended
  at_end = F.ended Z.row Z.g Z.d Z.drops

  -- nothing that it is called with is left at its end
  abbrev all_gone : Stays at_end.signature.params at_end.kept
  all_gone = let number = stay_dropped (plain (λ _. usize)) yes in (stay_dropped (lent Z) yes, (number, (number, tt)))

module _ (Z : Al) {M : Type 1} {𝓤 : Ura M} (𝓛 : Logic 𝓤) (at_mem : Memory → SProp 𝓤) (run : Routine → Fun 𝓤) where
  open 𝓛 use {H, A}

  abbrev says : Clauses 𝓤 (at_end Z)
  says = F.clauses Z.row Z.g Z.d Z.drops 𝓛 at_mem run

  module _ (κ₁ κ₂ : Lft) (q₁ q₂ : Share) (inn : κ₁ ⊑ κ₂) (r : Lent Z) (bytes to : ℕ) (τ : Ty) where
    abbrev given_to : List Val
    given_to = vptr r.ref_ptr.0 r.ref_ptr.1 ∷ vint w64 bytes ∷ vint w64 to ∷ []

    abbrev call : (walk_of 𝓛 (at_end Z) (all_gone Z) says).Ghost
    call = (((κ₁, (κ₂, tt)), (q₁, (q₂, tt)), (inn, tt), (r, (bytes, (to, tt))), (shr_vals r, (vint w64 bytes ∷ [], (vint w64 to ∷ [], tt)))), τ)

    abbrev Told : Val → SProp 𝓤
    Told = (walk_of 𝓛 (at_end Z) (all_gone Z) says).post call

    -- an answer, with the block that comes with it, and the tokens of both lifetimes: the call has ended
    told : (is_block : Bool) (b o : ℕ) → Sq 𝓛 (‵ (got (token Z r.now.inner) τ is_block b o) ∷ ‵ (flft κ₁ q₁) ∷ (‵ (flft κ₂ q₂) ⊛ ‵ ftrue) ∷ []) (prop (Told (answer_val is_block b o)))
    told true b o =
        suffices ! _ (ends_at 𝓛 (at_end Z) (all_gone Z) says call (answer_val true b o) (Ok (block_ptr b o)) (tt, (tt, (tt, tt))) (tt, (tt, (tt, tt)))) $
        use0 𝓛 (‵ (Answer.own_val (Ok (block_ptr b o)) (answer_val true b o ∷ []))) (Answer-Ok 𝓛 b o) $
        nothing ! $ nothing ! $ fjoin ! $ nothing ! $ fjoin ! $ nothing ! $ fjoin ! $ join ! $ move ! (2 ∷ 3 ∷ []) $ join ! $ join ! $ done !
    told false b o =
        suffices ! _ (ends_at 𝓛 (at_end Z) (all_gone Z) says call (answer_val false b o) (Err (record {})) (tt, (tt, (tt, tt))) (tt, (tt, (tt, tt)))) $
        use0 𝓛 (‵ (Answer.own_val (Err (record {})) (answer_val false b o ∷ []))) (Answer-err 𝓛) $
        nothing ! $ nothing ! $ fjoin ! $ nothing ! $ fjoin ! $ nothing ! $ fjoin ! $ join ! $ move ! (2 ∷ 3 ∷ []) $ join ! $ join ! $ done !

    -- the call of the allocator inside, and that which counts
    abbrev inner_call : (Takes Z 𝓛 at_mem run).Ghost
    inner_call = at_takes Z 𝓛 at_mem run κ₁ q₁ (inside Z r) r.now.inner bytes to τ

    abbrev counting : (Counts 𝓛 at_mem run).Ghost
    counting = at_counts 𝓛 at_mem run κ₁ q₁ (count Z r)

    inner_goes : κ₂ ⊑ Z.row.lives → IsOf τ bytes to → bytes < 2 ^ 64 → to < 2 ^ 64 → ent 𝓤 (sep 𝓤 (sem 𝓛 (seen Z κ₁ (inside Z r) r.now.inner)) (A.lft κ₁ q₁)) ((Takes Z 𝓛 at_mem run).pre inner_call)
    inner_goes lives sized fits fits' = Takes-goes Z 𝓛 at_mem run κ₁ q₁ (inside Z r) r.now.inner (⊑_trans κ₁ κ₂ Z.row.lives inn lives) bytes to τ sized.0 sized.1 fits fits'

    module _ (𝓣 : Tables 𝓤 𝓛.H) (takes : Triple 𝓤 (𝓣.C (takes_key Z)) (Takes Z 𝓛 at_mem run)) (counts : Triple 𝓤 (𝓣.C c_sym.name) (Counts 𝓛 at_mem run)) (fits : bytes < 2 ^ 64) (fits' : to < 2 ^ 64) where
      -- the count first, then a refusal or the call inside
      runs_to_end : ent 𝓤 ((walk_of 𝓛 (at_end Z) (all_gone Z) says).pre call) (WpFn 𝓤 H 𝓣.C 𝓣.Λ (asked_fn Z) given_to Told)
      runs_to_end =
          qed 𝓛 ((alive 𝓤 κ₁ κ₂ q₁ q₂ ⊛ ‵ (owns (types_at (at_end Z).signature.params call.0.0) call.0.3 call.0.4)) ∷ (raw (fact 𝓤 (κ₂ ⊑ Z.row.lives)) ⊛ raw (fact 𝓤 (IsOf τ bytes to))) ∷ []) ∵
          move ! (1 ∷ []) $ split ! $ heard ! (κ₂ ⊑ Z.row.lives) (λ lives. heard ! (IsOf τ bytes to) (λ sized.
          split ! $ split ! $ move ! (2 ∷ []) $ fsplit ! $ fsplit ! $ move ! (1 ∷ []) $ unhide ! $ fsplit ! $ fsplit ! $
          use1 𝓛 (‵ (seen Z κ₁ (inside Z r) r.now.inner)) (id⊢ 𝓤 _) $ move ! (1 ∷ []) $ fsplit ! $ keep ! (0 ∷ 6 ∷ 2 ∷ 7 ∷ []) $
          enter ! 𝓣.C 𝓣.Λ (asked_fn Z) given_to _ $ alloc_all ! (λ l. pass_all ! refl ((tt, tt), ((tt, record { fits = fits }), ((tt, record { fits = fits' }), tt))) $
          sets ! (addr ! (through ! refl (fld ! refl (stop !)))) refl (tt, tt) $
          use2 𝓛 (raw ((Counts 𝓛 at_mem run).pre counting)) (Counts-goes 𝓛 at_mem run κ₁ q₁ (count Z r)) $
          calls_at ! (fm_of 𝓤 H 𝓛.laws 𝓣) (Counts 𝓛 at_mem run) counts counting (and_then ! (get ! refl) (no_more !)) (λ c.
          use1 𝓛 (later (some (λ (is_refused : Bool). given (c ≡ vbool is_refused) (‵ (flft κ₁ q₁))))) (Counts-gives 𝓛 at_mem run κ₁ q₁ (count Z r) c) $ await ! tt $
          pick ! (λ is_refused. learn ! (λ said. lands_as ! said refl (tt, tt) $ first ! $ branches ! (get ! refl)
          (λ refuses.
          sets ! (agg ! (no_more !)) refl (tt, tt) $ sets ! (agg ! (and_then ! (lit ! tt) (and_then ! (get ! refl) (no_more !)))) refl (Answer-typed false 0 0) $
          returns_within ! Told refl (look_at ! 0 refl) $ free_all ! refl $ keep ! (0 ∷ 2 ∷ []) $ nothing ! $ told false 0 0)
          (λ passes.
          skips ! $ exec ! 𝓣.C 𝓣.Λ (env (asked_fn Z).locals l) (after 3 (asked_fn Z).body) (at_ret (env (asked_fn Z).locals l) Told) $
          move ! (1 ∷ []) $ sets ! (addr ! (through ! refl (fld ! refl (stop !)))) refl (tt, tt) $
          use2 𝓛 (raw ((Takes Z 𝓛 at_mem run).pre inner_call)) (inner_goes lives sized fits fits') $
          calls_at ! (fm_of 𝓤 H 𝓛.laws 𝓣) (Takes Z 𝓛 at_mem run) takes inner_call (and_then ! (get ! refl) (and_then ! (get ! refl) (and_then ! (get ! refl) (no_more !)))) (λ v.
          use1 𝓛 (later (raw (Answered Z 𝓛 at_mem run r.now.inner τ v) ⊛ ‵ (flft κ₁ q₁))) (Takes-gives Z 𝓛 at_mem run κ₁ q₁ (inside Z r) r.now.inner bytes to τ v) $ await ! tt $ split ! $
          answers Z ! at_mem run r.now.inner τ v
          (λ b o is. fjoin ! $ lands_as ! is refl (Answer-typed true b o) $ returns ! (look_at ! 0 refl) $ free_all ! refl $ told true b o)
          (λ is. nothing ! $ lands_as ! is refl (Answer-typed false 0 0) $ returns ! (look_at ! 0 refl) $ free_all ! refl $ told false 0 0)))))))))

pub allocate_spec : {M : Type 1} → stated.statement M
unfolding tables_of
allocate_spec 𝓤 𝓛 𝓜 𝓡 wired Y L g d d' met _ =
    let Z : Al = record { row = Y; laws = L; g = g; d = d; drops = d' } in
    let all_calls : Tables 𝓤 𝓛.H = tables_of 𝓤 𝓛.H 𝓜 (tables 𝓤 𝓛.H 𝓜 𝓡 𝓡.env) in
    let code_runs = WpFn 𝓤 𝓛.H all_calls.C all_calls.Λ (asked_fn Z) in
    let clauses = says Z 𝓛 𝓜.mem 𝓡.returns in
    let number = Goes-dropped 𝓛 2 (plain (λ _. usize)) yes (λ κs x f. refl) in
    let counts = cited 𝓤 𝓛.H _ 𝓜 𝓡 𝓡.env c_sym.name (𝓡.env c_sym.name) refl (c_met.met 𝓤 𝓛 𝓜 𝓡 (code.calls-refusing::counts_to_refusal 𝓡.env wired)) in
    entered 𝓤 𝓛.H (triple_of 𝓛 (F.signature Y) (F.spec Y g d d' 𝓛 𝓜.mem 𝓡.returns)) all_calls.C all_calls.Λ (key.name (of_inside Z)) (asked_fn Z) (code.unfolded 𝓤 𝓛.H 𝓜 𝓡 wired (Y, tt) d d')
    (walk_Meets 𝓛 (at_end Z) (all_gone Z) (Goes-dropped 𝓛 2 (lent Z) yes (λ κs x f. refl), (number, (number, tt))) clauses code_runs (WpFn-mono 𝓤 𝓛.H 𝓛.laws all_calls (asked_fn Z))
    (walked 𝓛 (at_end Z) (all_gone Z) clauses code_runs (λ κs. (shr_vals, (uint_vals w64, (uint_vals w64, tt)))) (λ κs. ((λ r vs s. s.0), (uint_Tells w64, (uint_Tells w64, tt))))
    (λ κs qs within x τ are. runs_to_end Z 𝓛 𝓜.mem 𝓡.returns κs.0 κs.1.0 qs.0 qs.1.0 within.0 x.0 x.1.0 x.1.1.0 τ all_calls (met.allocate d') counts are.1.0.1 are.1.1.0.1)))
