use Rattle.std.proofs.Common.{◌<◌, All, AllPairs, subst}
use Rattle.zn_handle.proofs.SlotSteps.{older_lives, rising_lives}
use Rattle.zn_handle.proofs.handles.Handles.live.Goals as goal

pub returns-clause-older : goal.returns-clause-older
returns-clause-older c =
    subst (λ s. All (λ live. live.handle.generation < s.handles.opened) s.handles.live) c.self.view_is (older_lives c.self.inside.slots.slots c.self.inside.opened)

pub returns-clause-rising : goal.returns-clause-rising
returns-clause-rising c =
    subst (λ s. AllPairs (λ a b. a.handle.generation < b.handle.generation) s.handles.live) c.self.view_is (rising_lives c.self.inside.slots.slots c.self.inside.opened)
