use Rattle.std.proofs.Common.{◌≡◌, All, None}
use Rattle.ng_replay.proofs.room.end_parcels.Given as goal

abbrev pub invariant-loop-parcel : goal.invariant-loop-parcel
invariant-loop-parcel g l = All (λ parcel. parcel ≡ None) l.parcels.items

abbrev pub decreases-loop-parcel : goal.decreases-loop-parcel
decreases-loop-parcel g l = goal.left-loop-parcel g l
