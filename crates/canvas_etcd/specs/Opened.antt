-- Why a store isn't a shelf's.
use Rattle.canvas_shelf.specs.declared.shelf.ShelfError.{ShelfError}
use Rattle.canvas_shelf.specs.declared.shelf.ShelfError.TheVariants.{Device as ShelfDevice, Memory as ShelfMemory}
use Rattle.canvas_etcd.specs.declared.error.EtcdError.{EtcdError}
use Rattle.canvas_etcd.specs.declared.error.EtcdError.TheVariants.{Device, Memory}

-- the same, of a store
abbrev pub etcd_error_of : ShelfError → EtcdError
etcd_error_of ShelfDevice = Device
etcd_error_of ShelfMemory = Memory
