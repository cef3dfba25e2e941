-- The handle of the heap, as the type of a box takes it. Assumes nothing.
use Rattle.std.proofs.Common.{[], ◌∷◌, refl}
use mir.Syntax.{Dict, impl, tcons, tnil, dnil}
use mir.Raw.{raw}
use denote.Exit.{no}
use denote.Param.{arg, layout}
use denote.Param.Laws.{Laws, arg_laws}
use denote.RattleType.{RattleType}
use Rattle.core.proofs.alloc.Calls.{Al}
use Rattle.std_heap.specs.contracts.Global.{the_row}
use Rattle.std_heap.specs.contracts.GlobalAllocator.TheImpl.{ghosts, dict}
use Rattle.std_heap.proofs.Global.TheLaws.{the_row_laws}

abbrev pub Handle : RattleType
Handle = arg (raw (layout the_row)) no the_row

abbrev pub handle_laws : Laws Handle
handle_laws = arg_laws (raw (layout the_row)) no the_row the_row_laws refl

-- there is nothing to drop in it
abbrev pub gone : Dict
gone = impl ("canvas_c::Destruct++none::drop" ∷ []) (tcons (layout Handle) tnil) dnil

abbrev pub heap : Al
heap = record { row = Handle; laws = handle_laws; g = ghosts; d = dict; drops = gone }
