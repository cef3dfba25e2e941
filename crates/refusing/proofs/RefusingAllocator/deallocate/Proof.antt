-- A block is given back to the allocator inside, and nothing is counted. Assumes `Logic`.
use Rattle.std.proofs.Common.{◌≡◌, ℕ, ◌^◌, ◌<◌, List, [], ◌∷◌, refl, w64}
use seplogic.Ra.Ura.{Ura}
use mir.Syntax.{Ty, Fn}
use mir.Val.{Val, vint, vptr}
use mir.MapTy.{inst_fn}
use base.Logic.{SProp, ent, id⊢}
use base.Fml.{Lft, Share, ftrue, flft}
use prog.Memory.{Memory}
use prog.Routine.{Routine}
use prog.Wp.{WpFn, Tables}
use types.Logic.{Logic}
use contract.BorrowLft.{◌⊑◌, ⊑_trans}
use contract.Monad.{Fun, fact}
use contract.Running.{tables, tables_of}
use sound.WpLaws.{fm_of, WpFn-mono}
use types.Run.{stop, fld, addr, no_more, and_then, of_opd, returns, enter}
use denote.Exit.{yes}
use denote.RattleType.{owns}
use denote.Ref.{shr_vals}
use denote.Opens.{unhide}
use denote.Plain.{uint_vals, uint_Tells}
use denote.Signature.{plain, types_at}
use denote.Steps.{heard, nothing}
use denote.Triple.Clauses.{Ended, Clauses}
use denote.Triple.Spec.{triple_of}
use denote.Triple.Statement.{Triple}
use denote.Triple.Table.{entered}
use denote.Triple.Walked.{Stays, stay_dropped, walk_of, ends_at, walked, Goes-dropped, walk_Meets}
use mir.Val.{vunit}
use base.Logic.{never_e}
use base.Fml.{Fml, ffalse, fsep, froom}
use types.Kit.{Item, Sq, prop, ‵, raw, ◌⊛◌, later, given, ◌$◌, ◌∵◌, !, qed, by, move, keep, use1, split, split3, join, learn, fsplit, fjoin, feq_i, suffices, await, done}
use types.Run.{unit_lit}
use types.ByLocal.{alloc_all, pass_all, free_all, look_at, get, through, sets, lands_as}
use denote.RawPtr.{Ptr, block_ptr, null_ptr, ptr_val, rawptr_vals, rawptr_Tells}
use denote.Builtin.{usize, RawPtr}
use denote.Triple.Call.{calls_at}
use Rattle.std.proofs.alloc.Calls.{Al, seen, token, gives_key, Gives, at_gives, Gives-goes, Gives-Gives}
use Rattle.refusing.proofs.Handing.{of_inside, lent, Lent, inside, IsOf, alive}
use Rattle.refusing.specs.contracts.RefusingAllocator.deallocate as F
use Rattle.refusing.specs.contracts.RefusingAllocator.deallocate.Key as key
use Rattle.refusing.proofs.RefusingAllocator.deallocate.Statement as stated
use Rattle.refusing.proofs.RefusingAllocator.deallocate.Code as code

module _ (Z : Al) where
  abbrev returned_fn : Fn
  returned_fn = inst_fn (of_inside Z) code.function

  abbrev at_end : Ended
  at_end = F.ended Z.row Z.g Z.d Z.drops

  -- nothing that it is called with is left at its end
  abbrev all_gone : Stays at_end.signature.params at_end.kept
  all_gone = let number = stay_dropped (plain (λ _. usize)) yes in (stay_dropped (lent Z) yes, (stay_dropped (plain (λ _. RawPtr)) yes, (number, (number, tt))))

module _ (Z : Al) {M : Type 1} {𝓤 : Ura M} (𝓛 : Logic 𝓤) (at_mem : Memory → SProp 𝓤) (run : Routine → Fun 𝓤) where
  open 𝓛 use {H}

  abbrev says : Clauses 𝓤 (at_end Z)
  says = F.clauses Z.row Z.g Z.d Z.drops 𝓛 at_mem run

  module _ (κ₁ κ₂ : Lft) (q₁ q₂ : Share) (inn : κ₁ ⊑ κ₂) (r : Lent Z) (block : Ptr) (bytes to : ℕ) (τ : Ty) where
    abbrev given_to : List Val
    given_to = vptr r.ref_ptr.0 r.ref_ptr.1 ∷ ptr_val block ∷ vint w64 bytes ∷ vint w64 to ∷ []

    abbrev call : (walk_of 𝓛 (at_end Z) (all_gone Z) says).Ghost
    call = (((κ₁, (κ₂, tt)), (q₁, (q₂, tt)), (inn, tt), (r, (block, (bytes, (to, tt)))), (shr_vals r, (rawptr_vals block, (vint w64 bytes ∷ [], (vint w64 to ∷ [], tt))))), τ)

    abbrev Done : Val → SProp 𝓤
    Done = (walk_of 𝓛 (at_end Z) (all_gone Z) says).post call

    -- the tokens of both lifetimes are all that is left: the call has ended
    over : Sq 𝓛 (‵ (flft κ₁ q₁) ∷ (‵ (flft κ₂ q₂) ⊛ ‵ ftrue) ∷ []) (prop (Done vunit))
    over =
        suffices ! _ (ends_at 𝓛 (at_end Z) (all_gone Z) says call vunit tt (tt, (tt, (tt, (tt, tt)))) (tt, (tt, (tt, (tt, tt))))) $
        nothing ! $ feq_i ! (List Val) (vunit ∷ []) (vunit ∷ []) refl $
        nothing ! $ nothing ! $ fjoin ! $ nothing ! $ fjoin ! $ nothing ! $ fjoin ! $ nothing ! $ fjoin ! $ join ! $ move ! (2 ∷ 3 ∷ []) $ join ! $ join ! $ done !

    -- what stands at its beginning, beside the block
    abbrev begun : Item 𝓤
    begun = alive 𝓤 κ₁ κ₂ q₁ q₂ ⊛ ‵ (owns (types_at (at_end Z).signature.params call.0.0) call.0.3 call.0.4)

    abbrev lives_and_size : Fml → Item 𝓤
    lives_and_size with_block = raw (fact 𝓤 (κ₂ ⊑ Z.row.lives)) ⊛ raw (fact 𝓤 (IsOf τ bytes to)) ⊛ ‵ with_block

  module _ (κ₁ κ₂ : Lft) (q₁ q₂ : Share) (inn : κ₁ ⊑ κ₂) (r : Lent Z) (bytes to : ℕ) (τ : Ty) (𝓣 : Tables 𝓤 𝓛.H) (gives : Triple 𝓤 (𝓣.C (gives_key Z)) (Gives Z 𝓛 at_mem run)) (fits : bytes < 2 ^ 64) (fits' : to < 2 ^ 64) where
    abbrev Runs : Ptr → Type 1
    Runs x = ent 𝓤 ((walk_of 𝓛 (at_end Z) (all_gone Z) says).pre (call κ₁ κ₂ q₁ q₂ inn r x bytes to τ)) (WpFn 𝓤 H 𝓣.C 𝓣.Λ (returned_fn Z) (given_to κ₁ κ₂ q₁ q₂ inn r x bytes to τ) (Done κ₁ κ₂ q₁ q₂ inn r x bytes to τ))

    -- no block stands where there is none
    runs_to_end : (x : Ptr) → Runs x
    runs_to_end null_ptr =
        qed 𝓛 (begun κ₁ κ₂ q₁ q₂ inn r null_ptr bytes to τ ∷ lives_and_size κ₁ κ₂ q₁ q₂ inn r null_ptr bytes to τ (fsep ffalse (token Z r.now.inner τ null_ptr)) ∷ []) ∵
        move ! (1 ∷ []) $ split3 ! $ move ! (2 ∷ []) $ fsplit ! $ keep ! (0 ∷ []) $ by ! (never_e 𝓤 _)
    runs_to_end (block_ptr b o) =
        let x : Ptr = block_ptr b o in
        let inner_call : (Gives Z 𝓛 at_mem run).Ghost = at_gives Z 𝓛 at_mem run κ₁ q₁ (inside Z r) r.now.inner b o bytes to τ in
        qed 𝓛 (begun κ₁ κ₂ q₁ q₂ inn r x bytes to τ ∷ lives_and_size κ₁ κ₂ q₁ q₂ inn r x bytes to τ (fsep (froom τ b o) (token Z r.now.inner τ x)) ∷ []) ∵
        move ! (1 ∷ []) $ split3 ! $ heard ! (κ₂ ⊑ Z.row.lives) (λ lives. heard ! (IsOf τ bytes to) (λ sized.
        move ! (1 ∷ []) $ split ! $ split ! $ move ! (2 ∷ []) $ fsplit ! $ fsplit ! $ move ! (1 ∷ []) $ unhide ! $ fsplit ! $ fsplit ! $
        use1 𝓛 (‵ (seen Z κ₁ (inside Z r) r.now.inner)) (id⊢ 𝓤 _) $ keep ! (0 ∷ 5 ∷ 6 ∷ 7 ∷ []) $
        enter ! 𝓣.C 𝓣.Λ (returned_fn Z) (given_to κ₁ κ₂ q₁ q₂ inn r x bytes to τ) _ $
        alloc_all ! (λ l. pass_all ! refl ((tt, tt), ((tt, tt), ((tt, record { fits = fits }), ((tt, record { fits = fits' }), tt)))) $
        sets ! (addr ! (through ! refl (fld ! refl (stop !)))) refl (tt, tt) $
        join ! $ move ! (2 ∷ []) $ fsplit ! $ move ! (1 ∷ 2 ∷ []) $ join ! $ move ! (1 ∷ 0 ∷ []) $ join ! $
        use1 𝓛 (raw ((Gives Z 𝓛 at_mem run).pre inner_call)) (Gives-goes Z 𝓛 at_mem run κ₁ q₁ (inside Z r) r.now.inner (⊑_trans κ₁ κ₂ Z.row.lives inn lives) b o bytes to τ sized.0 sized.1 fits fits') $
        calls_at ! (fm_of 𝓤 H 𝓛.laws 𝓣) (Gives Z 𝓛 at_mem run) gives inner_call (and_then ! (get ! refl) (and_then ! (get ! refl) (and_then ! (get ! refl) (and_then ! (get ! refl) (no_more !))))) (λ v.
        use1 𝓛 (later (given (v ≡ vunit) (‵ (flft κ₁ q₁)))) (Gives-Gives Z 𝓛 at_mem run κ₁ q₁ (inside Z r) r.now.inner b o bytes to τ v) $ await ! tt $
        learn ! (λ is. lands_as ! is refl (tt, tt) $ sets ! (of_opd ! (unit_lit !)) refl (tt, tt) $ returns ! (look_at ! 0 refl) $ free_all ! refl $ over κ₁ κ₂ q₁ q₂ inn r x bytes to τ)))))

pub deallocate_spec : {M : Type 1} → stated.statement M
unfolding tables_of
deallocate_spec 𝓤 𝓛 𝓜 𝓡 wired Y L g d d' met _ =
    let Z : Al = record { row = Y; laws = L; g = g; d = d; drops = d' } in
    let all_calls : Tables 𝓤 𝓛.H = tables_of 𝓤 𝓛.H 𝓜 (tables 𝓤 𝓛.H 𝓜 𝓡 𝓡.env) in
    let code_runs = WpFn 𝓤 𝓛.H all_calls.C all_calls.Λ (returned_fn Z) in
    let clauses = says Z 𝓛 𝓜.mem 𝓡.returns in
    let number = Goes-dropped 𝓛 2 (plain (λ _. usize)) yes (λ κs x f. refl) in
    entered 𝓤 𝓛.H (triple_of 𝓛 (F.signature Y) (F.spec Y g d d' 𝓛 𝓜.mem 𝓡.returns)) all_calls.C all_calls.Λ (key.name (of_inside Z)) (returned_fn Z) (code.unfolded 𝓤 𝓛.H 𝓜 𝓡 wired (Y, tt) d d')
    (walk_Meets 𝓛 (at_end Z) (all_gone Z) (Goes-dropped 𝓛 2 (lent Z) yes (λ κs x f. refl), (Goes-dropped 𝓛 2 (plain (λ _. RawPtr)) yes (λ κs x f. refl), (number, (number, tt)))) clauses code_runs (WpFn-mono 𝓤 𝓛.H 𝓛.laws all_calls (returned_fn Z))
    (walked 𝓛 (at_end Z) (all_gone Z) clauses code_runs (λ κs. (shr_vals, (rawptr_vals, (uint_vals w64, (uint_vals w64, tt))))) (λ κs. ((λ r vs s. s.0), (rawptr_Tells, (uint_Tells w64, (uint_Tells w64, tt)))))
    (λ κs qs within x τ are. runs_to_end Z 𝓛 𝓜.mem 𝓡.returns κs.0 κs.1.0 qs.0 qs.1.0 within.0 x.0 x.1.1.0 x.1.1.1.0 τ all_calls (met.deallocate d') are.1.1.0.1 are.1.1.1.0.1 x.1.0)))
