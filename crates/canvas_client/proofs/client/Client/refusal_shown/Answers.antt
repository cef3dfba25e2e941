use Rattle.std.proofs.Common.{IsTrue, inl, inr, subst, arith}
use Rattle.std.specs.Prelude.{◌↔◌, IsSomeAnd}
use Rattle.canvas_model.specs.Chain.{InTree}
use Rattle.canvas_model.specs.Document.{kind_of}
use Rattle.canvas_model.specs.Local.{BadParent, ComesAfterNone, GoesBelowItself, IsHidden, IsRoot, OwnDescendant, ParentNotShown, kind_asked, target_asked}
use Rattle.canvas_model.specs.Verdict.{MayNotStand}
use Rattle.canvas_client.proofs.Drafted.{none_more}
use Rattle.canvas_client.proofs.Refusing.{before_parent, before_root, not_so}
use Rattle.canvas_client.proofs.client.Client.refusal_shown.Goals as goal

pub returns-then-moves_root : goal.returns-then-moves_root
returns-then-moves_root g c =
    let before1 = before_root c.args.self.now c.args.request.now c.requires in
    record { some = (c.moves_root.ensures.0 c.if-moves_root.true, before1); early = omega arith; none = tt }

pub returns-then-is_hidden : goal.returns-then-is_hidden
returns-then-is_hidden g c =
    let before1 = before_root c.args.self.now c.args.request.now c.requires in
    let before2 = none_more c.args.self.now c.args.request.now IsRoot before1 (not_so c.moves_root.ensures c.if-moves_root.false) in
    let tells_is_hidden = subst (λ d. IsTrue c.is_hidden.result ↔ IsHidden d c.args.request.now) c.view.ensures.view c.is_hidden.ensures in
    record { some = (inl (tells_is_hidden.0 c.if-is_hidden.true), before2); early = omega arith; none = tt }

pub returns-then-comes_after_none : goal.returns-then-comes_after_none
returns-then-comes_after_none g c =
    let before1 = before_root c.args.self.now c.args.request.now c.requires in
    let before2 = none_more c.args.self.now c.args.request.now IsRoot before1 (not_so c.moves_root.ensures c.if-moves_root.false) in
    let tells_is_hidden = subst (λ d. IsTrue c.is_hidden.result ↔ IsHidden d c.args.request.now) c.view.ensures.view c.is_hidden.ensures in
    let tells_comes_after_none = subst (λ d. IsTrue c.comes_after_none.result ↔ ComesAfterNone d c.args.request.now) c.view-2.ensures.view c.comes_after_none.ensures in
    record { some = (inr (tells_comes_after_none.0 c.if-comes_after_none.true), before2); early = omega arith; none = tt }

pub returns-then-has_hidden_parent : goal.returns-then-has_hidden_parent
returns-then-has_hidden_parent g c =
    let before1 = before_root c.args.self.now c.args.request.now c.requires in
    let before2 = none_more c.args.self.now c.args.request.now IsRoot before1 (not_so c.moves_root.ensures c.if-moves_root.false) in
    let tells_is_hidden = subst (λ d. IsTrue c.is_hidden.result ↔ IsHidden d c.args.request.now) c.view.ensures.view c.is_hidden.ensures in
    let tells_comes_after_none = subst (λ d. IsTrue c.comes_after_none.result ↔ ComesAfterNone d c.args.request.now) c.view-2.ensures.view c.comes_after_none.ensures in
    let tells_has_hidden_parent = subst (λ d. IsTrue c.has_hidden_parent.result ↔ IsSomeAnd (target_asked c.args.request.now) (λ target. InTree d target.parent → ⊥)) c.view-3.ensures.view c.has_hidden_parent.ensures in
    let before3 = before_parent c.args.self.now c.args.request.now before2 (not_so tells_is_hidden c.if-is_hidden.false) (not_so tells_comes_after_none c.if-comes_after_none.false) in
    record { some = (tells_has_hidden_parent.0 c.if-has_hidden_parent.true, before3); early = omega arith; none = tt }

pub returns-then-has_bad_parent : goal.returns-then-has_bad_parent
returns-then-has_bad_parent g c =
    let before1 = before_root c.args.self.now c.args.request.now c.requires in
    let before2 = none_more c.args.self.now c.args.request.now IsRoot before1 (not_so c.moves_root.ensures c.if-moves_root.false) in
    let tells_is_hidden = subst (λ d. IsTrue c.is_hidden.result ↔ IsHidden d c.args.request.now) c.view.ensures.view c.is_hidden.ensures in
    let tells_comes_after_none = subst (λ d. IsTrue c.comes_after_none.result ↔ ComesAfterNone d c.args.request.now) c.view-2.ensures.view c.comes_after_none.ensures in
    let tells_has_hidden_parent = subst (λ d. IsTrue c.has_hidden_parent.result ↔ IsSomeAnd (target_asked c.args.request.now) (λ target. InTree d target.parent → ⊥)) c.view-3.ensures.view c.has_hidden_parent.ensures in
    let tells_has_bad_parent = subst (λ d. IsTrue c.has_bad_parent.result ↔ IsSomeAnd (target_asked c.args.request.now) (λ target. MayNotStand (kind_asked d c.args.request.now) (kind_of d target.parent))) c.view-4.ensures.view c.has_bad_parent.ensures in
    let before3 = before_parent c.args.self.now c.args.request.now before2 (not_so tells_is_hidden c.if-is_hidden.false) (not_so tells_comes_after_none c.if-comes_after_none.false) in
    let before4 = none_more c.args.self.now c.args.request.now ParentNotShown before3 (not_so tells_has_hidden_parent c.if-has_hidden_parent.false) in
    record { some = (tells_has_bad_parent.0 c.if-has_bad_parent.true, before4); early = omega arith; none = tt }

pub returns-then-goes_below_itself : goal.returns-then-goes_below_itself
returns-then-goes_below_itself g c =
    let before1 = before_root c.args.self.now c.args.request.now c.requires in
    let before2 = none_more c.args.self.now c.args.request.now IsRoot before1 (not_so c.moves_root.ensures c.if-moves_root.false) in
    let tells_is_hidden = subst (λ d. IsTrue c.is_hidden.result ↔ IsHidden d c.args.request.now) c.view.ensures.view c.is_hidden.ensures in
    let tells_comes_after_none = subst (λ d. IsTrue c.comes_after_none.result ↔ ComesAfterNone d c.args.request.now) c.view-2.ensures.view c.comes_after_none.ensures in
    let tells_has_hidden_parent = subst (λ d. IsTrue c.has_hidden_parent.result ↔ IsSomeAnd (target_asked c.args.request.now) (λ target. InTree d target.parent → ⊥)) c.view-3.ensures.view c.has_hidden_parent.ensures in
    let tells_has_bad_parent = subst (λ d. IsTrue c.has_bad_parent.result ↔ IsSomeAnd (target_asked c.args.request.now) (λ target. MayNotStand (kind_asked d c.args.request.now) (kind_of d target.parent))) c.view-4.ensures.view c.has_bad_parent.ensures in
    let tells_goes_below_itself = subst (λ d. IsTrue c.goes_below_itself.result ↔ GoesBelowItself d c.args.request.now) c.view-5.ensures.view c.goes_below_itself.ensures in
    let before3 = before_parent c.args.self.now c.args.request.now before2 (not_so tells_is_hidden c.if-is_hidden.false) (not_so tells_comes_after_none c.if-comes_after_none.false) in
    let before4 = none_more c.args.self.now c.args.request.now ParentNotShown before3 (not_so tells_has_hidden_parent c.if-has_hidden_parent.false) in
    let before5 = none_more c.args.self.now c.args.request.now BadParent before4 (not_so tells_has_bad_parent c.if-has_bad_parent.false) in
    record { some = (tells_goes_below_itself.0 c.if-goes_below_itself.true, before5); early = omega arith; none = tt }

pub returns : goal.returns
returns g c =
    let before1 = before_root c.args.self.now c.args.request.now c.requires in
    let before2 = none_more c.args.self.now c.args.request.now IsRoot before1 (not_so c.moves_root.ensures c.if-moves_root.false) in
    let tells_is_hidden = subst (λ d. IsTrue c.is_hidden.result ↔ IsHidden d c.args.request.now) c.view.ensures.view c.is_hidden.ensures in
    let tells_comes_after_none = subst (λ d. IsTrue c.comes_after_none.result ↔ ComesAfterNone d c.args.request.now) c.view-2.ensures.view c.comes_after_none.ensures in
    let tells_has_hidden_parent = subst (λ d. IsTrue c.has_hidden_parent.result ↔ IsSomeAnd (target_asked c.args.request.now) (λ target. InTree d target.parent → ⊥)) c.view-3.ensures.view c.has_hidden_parent.ensures in
    let tells_has_bad_parent = subst (λ d. IsTrue c.has_bad_parent.result ↔ IsSomeAnd (target_asked c.args.request.now) (λ target. MayNotStand (kind_asked d c.args.request.now) (kind_of d target.parent))) c.view-4.ensures.view c.has_bad_parent.ensures in
    let tells_goes_below_itself = subst (λ d. IsTrue c.goes_below_itself.result ↔ GoesBelowItself d c.args.request.now) c.view-5.ensures.view c.goes_below_itself.ensures in
    let before3 = before_parent c.args.self.now c.args.request.now before2 (not_so tells_is_hidden c.if-is_hidden.false) (not_so tells_comes_after_none c.if-comes_after_none.false) in
    let before4 = none_more c.args.self.now c.args.request.now ParentNotShown before3 (not_so tells_has_hidden_parent c.if-has_hidden_parent.false) in
    let before5 = none_more c.args.self.now c.args.request.now BadParent before4 (not_so tells_has_bad_parent c.if-has_bad_parent.false) in
    record { some = tt; early = tt; none = none_more c.args.self.now c.args.request.now OwnDescendant before5 (not_so tells_goes_below_itself c.if-goes_below_itself.false) }
