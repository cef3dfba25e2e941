use Rattle.std.proofs.Common.{◌≡◌, ◌∙◌, ℕ, List, Option, IsTrue, ap, subst, sym}
use Rattle.canvas_model.specs.State.{State}
use Rattle.canvas_shelf.specs.Disk.{Segment, seen}
use Rattle.canvas_journal.specs.Found.{Finds, IsState}
use Rattle.canvas_journal.specs.Meaning.{Versioned}
use Rattle.std.specs.Prelude.{MatchOption}
use Rattle.disk_integrity.specs.Losses.{IsLost, NothingLost}
use Rattle.disk_integrity.specs.declared.listed.Listed.{Listed}
use Rattle.disk_integrity.specs.declared.loss.Loss.{Loss}
use Rattle.disk_integrity.specs.declared.trace.Trace.{Trace}
use Rattle.app_admin.specs.Checkpoints.{checkpoint_bytes}
use Rattle.app_admin.specs.Losing.{content_of, number_taken}
use Rattle.app_admin.specs.Taken.{TakesFrom, source_of}
use Rattle.app_admin.proofs.finding_loss.find_loss.Goals as goal

-- what is told of these segments
abbrev Tells : Option Loss → Option ℕ → List ℕ → Option Trace → List Listed → Type 0
Tells loss taken checkpoint trace listed = MatchOption loss (NothingLost taken checkpoint trace listed) (IsLost taken checkpoint trace listed)

same_told : (loss : Option Loss) (trace : Option Trace) (a b : Option ℕ) (x y : List ℕ) (l m : List Listed) → a ≡ b → x ≡ y → l ≡ m → Tells loss a x trace l → Tells loss b y trace m
same_told loss trace a b x y l m taken checkpoint listed told =
    subst (λ (z : List Listed). Tells loss b y trace z) listed (subst (λ (z : List ℕ). Tells loss b z trace l) checkpoint (subst (λ (z : Option ℕ). Tells loss z x trace l) taken told))

pub returns-clause-found : goal.returns-clause-found
returns-clause-found g c = λ h.
    let disk = g.S.Shelf.disk c.args.shelf.now in
    let state : State = c.in_ok-state.state in
    let s : Versioned = (state, c.in_ok-state.version) in
    let source = source_of c.in_ok-taken.taken in
    let at_list = subst IsTrue (sym c.list.ensures.honest) h in
    let at_read = subst IsTrue (sym c.read_each.ensures.honest) at_list in
    let at_look = subst IsTrue (sym c.look.ensures.honest) at_read in
    let listed = (c.list.ensures.disk h).0 in
    let read = (c.read_each.ensures.disk at_list).0 ∙ listed in
    let looked = (c.look.ensures.disk at_read).0 ∙ read in
    let content : content_of c.in_ok-listed.listed.items ≡ seen disk = c.in_ok-listed.ensures.content at_list ∙ ap seen listed in
    let finds : Finds (seen disk) (IsState s) = subst (λ (d : List Segment). Finds (seen d) (IsState s)) read (c.in_ok-state.ensures.found at_read) in
    let takes : TakesFrom (seen disk) source =
    subst (λ (d : List Segment). TakesFrom (seen d) source) looked
    (c.in_ok-taken.ensures.taken at_look s (subst (λ (d : List Segment). Finds (seen d) (IsState s)) (sym looked) finds)) in (
      c.in_ok-listed.listed.items,
      source,
      s,
      content,
      takes,
      finds,
      same_told c.loss_of.result c.args.trace c.taken_number.result (number_taken source) c.deref-3.result.now (checkpoint_bytes s) c.deref-2.result.now c.in_ok-listed.listed.items
          c.taken_number.ensures
          (c.deref-3.ensures.value ∙ c.in_ok-checkpoint.ensures)
          c.deref-2.ensures.value
          c.loss_of.ensures,
    )
