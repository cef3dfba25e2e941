-- What is told of a checkpoint that isn't made.
use Rattle.std.specs.Prelude.{ℕ, List, ◌++◌, codes, Option, Some, None}
use Rattle.std.specs.Fmt.{decimal}
use Rattle.canvas_folder.specs.declared.space.SpaceRefusal.{SpaceRefusal}
use Rattle.canvas_folder.specs.declared.space.SpaceRefusal.TheVariants as refusal
use Rattle.app_faults.specs.declared.fault.Fault.{Fault}
use Rattle.app_faults.specs.declared.fault.Fault.TheVariants.{NoDescriptor, NoSpace, Memory}

-- the sentence that tells why no checkpoint of this folder is made, while its server goes on
abbrev pub refusal_text : SpaceRefusal → List ℕ → List ℕ
refusal_text (refusal.NoSpace missing) dir =
    codes "no room for a checkpoint of " ++ dir ++ codes ": " ++ decimal missing ++ codes " bytes are missing; free them, edits go on meanwhile"
refusal_text refusal.NoDescriptor dir = codes "no open file is left for a checkpoint of " ++ dir ++ codes ": raise the limit (ulimit -n), edits go on meanwhile"

-- the fault of an opening that failed so, where the folder refused this last
abbrev pub with_refusal : Fault → Option SpaceRefusal → Fault
with_refusal Memory (Some (refusal.NoSpace missing)) = NoSpace missing
with_refusal Memory (Some refusal.NoDescriptor) = NoDescriptor
with_refusal fault last = fault
