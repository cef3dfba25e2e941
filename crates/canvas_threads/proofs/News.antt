-- What a board that records a log tells is true of that, and leads a client on.
use Rattle.std.proofs.Common.{◌≡◌, ℕ, zero, suc, ◌+◌, ◌-◌, ◌≤◌, ◌<◌, List, [], ◌∷◌, ◌++◌, length, take, drop, refl, ap, sym, ◌∙◌, arith}
use Rattle.std.specs.Prelude.{Bool, true, false, cond, nat_lt, slice_get, Some, None}
use Rattle.canvas_model.specs.State.{State, opening, done}
use Rattle.canvas_model.specs.Log.{Entry, at_version, fold}
use Rattle.canvas_model.specs.Numbered.{nth}
use Rattle.canvas_model.specs.Messages.{Idle}
use Rattle.canvas_model.proofs.Lists.{get-drop, nth-drop, nth-take, nth-take_inv}
use Rattle.canvas_model.proofs.Log.{take_all}
use Rattle.canvas_model.proofs.Tests.{lt_false}
use Rattle.canvas_server.specs.Served.{Served}
use Rattle.room_handler.specs.News.{copies, news_of, tells, tells_or_copies}
use Rattle.canvas_threads.specs.Follows.{IsTrueFor}
use Rattle.canvas_threads.specs.Histories.{AreTrueFor}
use Rattle.canvas_threads.proofs.Histories.{Records}

module _ (b : Served) (log : List Entry) (r : Records b log) where
  -- the entries after a version that aren't passed
  abbrev pub rest_after : ℕ → List Entry
  rest_after from = take 64 (drop (from - b.floor) (take (b.published - b.floor) b.kept))

  -- each of them stands there in the log
  rest_there : (from : ℕ) → b.floor ≤ from → (i : ℕ) (e : Entry) → nth (rest_after from) i ≡ Some e → nth log (from + i) ≡ Some e
  rest_there from high i e here =
      let first = nth-take_inv (drop (from - b.floor) (take (b.published - b.floor) b.kept)) 64 i e here in
      let later = nth-drop (from - b.floor) (take (b.published - b.floor) b.kept) i e first.1 in
      let shown = nth-take_inv b.kept (b.published - b.floor) (from - b.floor + i) e later in
      let there = nth-drop b.floor log (from - b.floor + i) e (ap (λ (l : List Entry). nth l (from - b.floor + i)) (sym r.kept) ∙ shown.1) in
      let at : from + i ≡ b.floor + (from - b.floor + i) = omega (arith, high) in
      ap (nth log) at ∙ there

  -- and the first of them is the next entry of the log
  pub next_first : (from : ℕ) → b.floor ≤ from → from < length log → (e : Entry) → nth log (suc from) ≡ Some e → nth (rest_after from) 1 ≡ Some e
  next_first from high low e here =
      let at : b.floor + (from - b.floor) ≡ from = omega (arith, high) in
      let kept : slice_get b.kept (from - b.floor) ≡ Some e = ap (λ (l : List Entry). slice_get l (from - b.floor)) r.kept ∙ get-drop b.floor log (from - b.floor) ∙ ap (slice_get log) at ∙ here in
      let shown = nth-take b.kept (b.published - b.floor) (suc (from - b.floor)) e (omega (arith, high, low, r.shown, r.version)) kept in
      let none : from - b.floor + 0 ≡ from - b.floor = omega arith in
      let later : nth (drop (from - b.floor) (take (b.published - b.floor) b.kept)) 1 ≡ Some e =
      get-drop (from - b.floor) (take (b.published - b.floor) b.kept) 0 ∙ ap (slice_get (take (b.published - b.floor) b.kept)) none ∙ shown in
      nth-take (drop (from - b.floor) (take (b.published - b.floor) b.kept)) 64 1 e (omega arith) later

  module _ (c : ℕ) where
    tells_true : (from : ℕ) (es : List Entry) → ((i : ℕ) (e : Entry) → nth es i ≡ Some e → nth log (from + i) ≡ Some e) → AreTrueFor log c (tells from es ++ Idle ∷ [])
    tells_true from [] there = (tt, tt)
    tells_true from (e ∷ es) there = (there 1 e refl, tells_true (from + 1) es later)
      where
        later : (i : ℕ) (x : Entry) → nth es i ≡ Some x → nth log (from + 1 + i) ≡ Some x
        later zero x here = absurd (cc)
        later (suc i) x here = let at : from + 1 + suc i ≡ from + suc (suc i) = omega arith in ap (nth log) at ∙ there (suc (suc i)) x here

    pub copy_true : IsTrueFor log c (copies b c)
    copy_true =
        let state : b.state ≡ at_version log b.version = r.state ∙ ap (fold opening) (sym (take_all log) ∙ ap (λ (v : ℕ). take v log) (sym r.version)) in
        (omega (arith, r.version), ap (λ (s : State). done s c) state, ap (λ (s : State). s.doc) state)

    pub news_true : (from : ℕ) → AreTrueFor log c (news_of b c from ++ Idle ∷ [])
    news_true from = by (nat_lt from b.floor) refl
      where
        by : (t : Bool) → nat_lt from b.floor ≡ t → AreTrueFor log c (tells_or_copies b c from (cond t None (Some (rest_after from))) ++ Idle ∷ [])
        by true is = (copy_true, (tt, tt))
        by false is = tells_true from (rest_after from) (rest_there from (lt_false from b.floor is))
