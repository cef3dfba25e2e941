-- Edits at an end of a parent's children, made of those at a position that lies there.
use Rattle.std.proofs.Common.{Option, Some, None, sym, subst}
use Rattle.canvas_model.specs.declared.ObjId.{ObjId}
use Rattle.canvas_model.specs.declared.Kind.{Kind}
use Rattle.canvas_model.specs.Ids.{root}
use Rattle.canvas_model.specs.Document.{Doc, Place, Pos}
use Rattle.canvas_model.specs.Client.{Client}
use Rattle.canvas_client.specs.Placed.{PlaceRequest, PlaceError, place_refusal}
use Rattle.canvas_client.specs.Ends.{HasCreatedThere, HasMovedThere, IsEndError, IsRefusalThere, LiesAt}
use Rattle.canvas_client.specs.declared.error.EndError.{EndError}
use Rattle.canvas_client.specs.declared.error.EndError.TheVariants as error

module _ (Lies : Doc → ObjId → ObjId → Option Pos → Type 0) (old : Client) (parent : ObjId) (there : Option Pos) where
  pub created_there : (kind : Kind) (id : ObjId) (new : Client) → Lies old.view parent root there → HasCreatedThere (LiesAt there) old kind parent id new → HasCreatedThere Lies old kind parent id new
  created_there kind id new lies (pos, is, has) = (pos, subst (Lies old.view parent root) (sym is) lies, has)

  pub moved_there : (id : ObjId) (new : Client) → Lies old.view parent id there → HasMovedThere (LiesAt there) old id parent new → HasMovedThere Lies old id parent new
  moved_there id new lies (pos, is, has) = (pos, subst (Lies old.view parent id) (sym is) lies, has)

  module _ (except : ObjId) (request : Place → PlaceRequest) (lies : Lies old.view parent except there) where
    refused_there : (e : Option PlaceError) → IsRefusalThere (LiesAt there) old parent except request e → IsRefusalThere Lies old parent except request e
    refused_there None refuses = tt
    refused_there (Some e) (pos, is, refuses) = (pos, subst (Lies old.view parent except) (sym is) lies, refuses)

    pub end_error : (e : EndError) → IsEndError (LiesAt there) old parent except request e → IsEndError Lies old parent except request e
    end_error error.Crowded is = subst (Lies old.view parent except) (sym is) lies
    end_error (error.Edit e) refuses = refused_there (place_refusal e) refuses
