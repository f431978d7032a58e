-- The number and the layer of each refusal.
use Rattle.std.specs.Prelude.{cond, ℕ, ◌==◌}
use Rattle.fault.specs.declared.Layer.{Layer}
use Rattle.fault.specs.declared.Layer.TheVariants.{Sheet, Table, Run, Unit as UnitLayer}
use Rattle.fault.specs.declared.Refusal.{Refusal}
use Rattle.fault.specs.declared.Refusal.TheVariants.{SheetTooLong, EndsEarly, BadLine, BadCount, BadLevel, BadPeriod, BadDeadline, BadWork, LateStart, BytesFollow, NoLevelPasses, UnitNotReady, LevelNotTaken, EarlyStart, CountFull, NothingGiven, UnitBusy, UnknownLevel, BadRest, BadDivider, QueueFull}

-- The number under which a refusal is printed.
abbrev pub number_of : Refusal → ℕ
number_of SheetTooLong = 1
number_of EndsEarly = 2
number_of BadLine = 3
number_of BadCount = 4
number_of BadLevel = 5
number_of BadPeriod = 6
number_of BadDeadline = 7
number_of BadWork = 8
number_of LateStart = 9
number_of BytesFollow = 10
number_of NoLevelPasses = 11
number_of UnitNotReady = 12
number_of LevelNotTaken = 13
number_of EarlyStart = 14
number_of CountFull = 15
number_of NothingGiven = 16
number_of UnitBusy = 17
number_of UnknownLevel = 18
number_of BadRest = 19
number_of BadDivider = 20
number_of QueueFull = 21

-- The layer whose rule is broken, at a line of a sheet, 0 outside one. A count is a rule of the sheet that has it, and
-- else of the table.
abbrev pub layer_of : Refusal → ℕ → Layer
layer_of SheetTooLong line = Sheet
layer_of EndsEarly line = Sheet
layer_of BadLine line = Sheet
layer_of BadCount line = cond (line == 0) Table Sheet
layer_of BadLevel line = Table
layer_of BadPeriod line = Table
layer_of BadDeadline line = Table
layer_of BadWork line = Table
layer_of LateStart line = Table
layer_of BytesFollow line = Sheet
layer_of NoLevelPasses line = Table
layer_of UnitNotReady line = Run
layer_of LevelNotTaken line = Run
layer_of EarlyStart line = Run
layer_of CountFull line = Run
layer_of NothingGiven line = Run
layer_of UnitBusy line = UnitLayer
layer_of UnknownLevel line = UnitLayer
layer_of BadRest line = UnitLayer
layer_of BadDivider line = UnitLayer
layer_of QueueFull line = Run
