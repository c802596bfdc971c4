mod Named
mod PlanLaws
