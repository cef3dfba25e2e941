-- What `==` says of ids and of counts, and of what holds lists of them.
use Rattle.std.proofs.Common.{◌≡◌, Bool, true, false, List, Decides, sym, ap, ◌∙◌, nat_eq, ◌&&◌}
use Rattle.std.proofs.lemmas.Bool.Decides.{Decides-and, Decides-eqb, Decides-like}
use Rattle.canvas_model.specs.declared.ObjId.{ObjId}
use Rattle.canvas_model.specs.declared.Counts.{Counts}
use Rattle.canvas_model.specs.Document.{Doc}
use Rattle.canvas_model.specs.State.{State}
use Rattle.canvas_model.specs.Verdict.{Outcome, Removed}

pub same_counts : (a b : Counts) → Decides (nat_eq a.done b.done && nat_eq a.used b.used) (a ≡ b)
same_counts a b =
    Decides-like _ (λ (p, q) i. record { done = p i; used = q i }) (λ e. (ap (λ (x : Counts). x.done) e, ap (λ (x : Counts). x.used) e))
    (Decides-and _ _ (Decides-eqb a.done b.done) (Decides-eqb a.used b.used))

-- two deletions are the same where their ids are
pub same_removed : (o p : Outcome) (xs ys : List ObjId) (r : Bool) → o ≡ Removed xs → p ≡ Removed ys → Decides r (xs ≡ ys) → Decides r (o ≡ p)
same_removed o p xs ys r o_is p_is = Decides-like r (λ e. o_is ∙ ap Removed e ∙ sym p_is) (λ e. let lists : Removed xs ≡ Removed ys = sym o_is ∙ e ∙ p_is in let same : xs ≡ ys = cc in same)

-- two states are the same where their clients' counts and documents are
module _ (s t : State) (d e : Doc) (xs ys : List Counts) (clients : Bool) (d_is : d ≡ s.doc) (e_is : e ≡ t.doc) (xs_is : xs ≡ s.clients) (ys_is : ys ≡ t.clients) (same_clients : Decides clients (xs ≡ ys)) where
  pub same_docs : clients ≡ true → (docs : Bool) → Decides docs (d ≡ e) → Decides docs (s ≡ t)
  same_docs is docs =
      Decides-like docs (λ p i. record { doc = (sym d_is ∙ p ∙ e_is) i; clients = (sym xs_is ∙ same_clients.0 is ∙ ys_is) i })
      (λ p. d_is ∙ ap (λ (x : State). x.doc) p ∙ sym e_is)

  pub other_clients : clients ≡ false → Decides clients (s ≡ t)
  other_clients is = (λ b. absurd (let f : true ≡ false = sym b ∙ is in cc), λ p. same_clients.1 (xs_is ∙ ap (λ (x : State). x.clients) p ∙ sym ys_is))
